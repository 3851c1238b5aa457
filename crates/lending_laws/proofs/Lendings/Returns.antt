-- How lendings end: each lending that is not lent has returned with its group, as its end went out, or as its end is over; and that stays so.
use Rattle.std.proofs.Common.{Bool, List, [], ap, eqb-true, false, filter_map, inl, inr, refl, sym, true, true≢false, ℕ, ◌&&◌, ◌==◌, ◌||◌, ◌∙◌, ◌∷◌, ◌≡◌, ◌⊎◌}
use Rattle.pipe_model.specs.declared.event.Event.TheVariants.{Clc as ClcEvent}
use Rattle.pipe_model.specs.Connections.{comes_up}
use Rattle.std.specs.Prelude.{None, Option, Some, is_some, option_and_then, option_map, unwrap_or}
use Rattle.std.specs.Option.{option_or}
use Rattle.pipe_model.specs.declared.reply.Reply.TheVariants.{Idle}
use Rattle.history_laws.specs.Words.{A, B, Declined, EndState, Entry, Established, Event, FellBack, HasFallen, IsUp, Lending, LinkId, NoEnd, Offered, Reply, Reset, Setup, Side, WaitsAnswer, WaitsConfirm, WaitsLink, WaitsProposal, WasReset, act_by, act_in, after_clc, after_event, after_loss, confirmed_by, early_state, end_state, expects, gives_up, group_on, has_ended, is_out, is_over_on, is_up, leaves_handshake, lendings, lends, lent, loses_group_with, named_link, new_offer, offered, other, returns, up_by}
use Rattle.history_laws.proofs.Basics.{by-bool, none-is, or-left, or-parts, or-true, some-is}
use Rattle.history_laws.proofs.Offers.{Answers, ByVerdict, Does, DoesBegin, DoesNothing, DoesTake, ForFault, NotTaken, all-offers, answers, does, in-append, in-front, kept, new-or-old, state-early, state-up, states, taken-as}
use Rattle.history_laws.specs.Made.{IsMadeAll, IsMade}
use Rattle.history_laws.specs.Offers.{HasOffers, HasStates, NewLending, is_early, is_none}
use Rattle.history_laws.specs.Lists.{IsAmong}
use Rattle.lending_laws.specs.Owed.{OwedWith}
use Rattle.lending_laws.specs.Lendings.{AreLendings, AsOut, AsOver, Changes, HasReturned, WithGroup}
use Rattle.lending_laws.proofs.Lendings.Lendings.{all-lendings, changes}

-- an end that is out
out-not-up : (x : Side) (s : ℕ) (past : List Entry) → is_out (end_state x s past) ≡ true → is_up x s past ≡ false
out-not-up x s past o = by-bool (is_up x s past ≡ false) (is_up x s past) (λ u. absurd (true≢false (sym o ∙ ap is_out (state-up x s past u)))) (λ u. u)

pub out-early : (x : Side) (s : ℕ) (past : List Entry) → is_out (end_state x s past) ≡ true → is_out (early_state x s past) ≡ true
out-early x s past o = ap is_out (sym (state-early x s past (out-not-up x s past o))) ∙ o

out-expects : (st : EndState) → is_out st ≡ true → expects st ≡ false
out-expects NoEnd o = refl
out-expects WaitsProposal o = cc
out-expects WaitsAnswer o = cc
out-expects WaitsConfirm o = cc
out-expects WaitsLink o = cc
out-expects IsUp o = cc
out-expects HasFallen o = refl
out-expects (WasReset cause) o = refl

pub loss-out : (b : Bool) (g : ℕ) (st : EndState) → is_out st ≡ true → is_out (after_loss b g st) ≡ true
loss-out true g NoEnd o = refl
loss-out true g WaitsProposal o = o
loss-out true g WaitsAnswer o = o
loss-out true g WaitsConfirm o = o
loss-out true g WaitsLink o = refl
loss-out true g IsUp o = o
loss-out true g HasFallen o = refl
loss-out true g (WasReset cause) o = refl
loss-out false g st o = o

-- an answer that gives up
give-out : (r : Reply) (st : EndState) → gives_up r ≡ true → is_out (after_clc r st) ≡ true
give-out (Declined lack) st g = refl
give-out FellBack st g = refl
give-out (Reset cause) st g = refl
give-out _ st g = absurd (true≢false (sym g))

-- it is given by an event on the socket, to the end that takes the message
pub leaves-is : (x : Side) (s : ℕ) (v : Event) (r : Reply) → leaves_handshake x s v r ≡ true → (v ≡ ClcEvent s (other x)) × (gives_up r ≡ true)
leaves-is A s (ClcEvent t B) r l = (ap (λ n. ClcEvent n B) (sym (eqb-true s t (first (s == t) (gives_up r) l))), second (s == t) (gives_up r) l)
  where
    first : (a b : Bool) → (a && b) ≡ true → a ≡ true
    first true b e = refl
    first false b e = absurd (true≢false (sym e))

    second : (a b : Bool) → (a && b) ≡ true → b ≡ true
    second true b e = e
    second false b e = absurd (true≢false (sym e))
leaves-is B s (ClcEvent t A) r l = (ap (λ n. ClcEvent n A) (sym (eqb-true s t (first (s == t) (gives_up r) l))), second (s == t) (gives_up r) l)
  where
    first : (a b : Bool) → (a && b) ≡ true → a ≡ true
    first true b e = refl
    first false b e = absurd (true≢false (sym e))

    second : (a b : Bool) → (a && b) ≡ true → b ≡ true
    second true b e = e
    second false b e = absurd (true≢false (sym e))
leaves-is A s _ r l = absurd (true≢false (sym l))
leaves-is B s _ r l = absurd (true≢false (sym l))

-- an answer that gives up brings nobody up
no-up : (x : Side) (s : ℕ) (e : Entry) (past : List Entry) → e.event ≡ ClcEvent s (other x) → gives_up e.reply ≡ true → comes_up x s e past ≡ None
no-up A s e past ev g =
    ap (λ v. option_or (up_by A s v e.reply past) (option_and_then (λ act. confirmed_by (offered B s past) act.link act.step) (act_in A e past))) ev
    ∙ (ap (λ o. option_or o (option_and_then (λ act. confirmed_by (offered B s past) act.link act.step) (act_in A e past))) (quiet e.reply g)
    ∙ ap (λ v. option_and_then (λ act. confirmed_by (offered B s past) act.link act.step) (act_by A v e.reply past)) ev)
  where
    quiet : (r : Reply) → gives_up r ≡ true → up_by A s (ClcEvent s B) r past ≡ None
    quiet Established h = cc
    quiet _ h = refl
no-up B s e past ev g =
    ap (λ v. option_or (up_by B s v e.reply past) (option_and_then (λ act. confirmed_by (offered B s past) act.link act.step) (act_in B e past))) ev
    ∙ (ap (λ o. option_or o (option_and_then (λ act. confirmed_by (offered B s past) act.link act.step) (act_in B e past))) (quiet e.reply g)
    ∙ ap (λ v. option_and_then (λ act. confirmed_by (offered B s past) act.link act.step) (act_by B v e.reply past)) ev)
  where
    quiet : (r : Reply) → gives_up r ≡ true → up_by B s (ClcEvent s A) r past ≡ None
    quiet Established h = cc
    quiet _ h = refl

module _ (setup : Setup) (payload : List ℕ) (past : List Entry) (before : ℕ) (e : Entry) (made : IsMade setup payload past before e) (st : (s : ℕ) → HasStates s past) (off : (s : ℕ) → HasOffers s past) (owed : OwedWith e past) where
  -- an end that went out stays out
  pub out-stays : (x : Side) (s : ℕ) → is_none (early_state x s past) ≡ false → is_out (end_state x s past) ≡ true → is_out (end_state x s (e ∷ past)) ≡ true
  out-stays x s n o = ap is_out (state-early x s (e ∷ past) (low (comes_up x s e past) refl)) ∙ loss-out (loses_group_with x (group_on s past) e past) (group_on s past) (after_event x s e.event e.reply (early_state x s past))
      (by (let h = st s in does setup payload past before e made s (h.begun x n) x (early_state x s past)))
    where
      low : (c : Option LinkId) → comes_up x s e past ≡ c → is_up x s (e ∷ past) ≡ false
      low None i = ap (λ c. is_some c || is_up x s past) i ∙ out-not-up x s past o
      low (Some link) i = absurd (true≢false (sym o ∙ owed.waits x s link i))

      idle : e.event ≡ ClcEvent s (other x) → e.reply ≡ Idle
      idle ev = for x o (answers setup payload past before e made s (other x) ev)
        where
          for : (y : Side) → is_out (end_state y s past) ≡ true → Answers setup payload s (other y) past e.reply → e.reply ≡ Idle
          for y p (NotTaken i) = i
          for A p (ForFault fault x f i) = absurd (true≢false (sym x ∙ out-expects (end_state A s past) p))
          for B p (ForFault fault x f i) = absurd (true≢false (sym x ∙ out-expects (end_state B s past) p))
          for A p (ByVerdict m len x f i) = absurd (true≢false (sym x ∙ out-expects (end_state A s past) p))
          for B p (ByVerdict m len x f i) = absurd (true≢false (sym x ∙ out-expects (end_state B s past) p))

      by : Does x s e (early_state x s past) (after_event x s e.event e.reply (early_state x s past)) → is_out (after_event x s e.event e.reply (early_state x s past)) ≡ true
      by (DoesNothing i) = ap is_out i ∙ out-early x s past o
      by (DoesTake ev i) = ap is_out (i ∙ ap (λ r. after_clc r (early_state x s past)) (idle ev)) ∙ out-early x s past o
      by (DoesBegin m b i) = absurd (true≢false (sym m ∙ n))

  -- an end that leaves its handshake is out
  pub leaves-out : (x : Side) (s : ℕ) → leaves_handshake x s e.event e.reply ≡ true → is_out (end_state x s (e ∷ past)) ≡ true
  leaves-out x s l =
      let q = leaves-is x s e.event e.reply l in
      let low : is_up x s (e ∷ past) ≡ false = ap (λ c. is_some c || is_up x s past) (no-up x s e past q.0 q.1) ∙ was x q.0 (answers setup payload past before e made s (other x) q.0) q.1 in
      ap is_out (state-early x s (e ∷ past) low) ∙ loss-out (loses_group_with x (group_on s past) e past) (group_on s past) (after_event x s e.event e.reply (early_state x s past))
      (ap is_out (taken-as x s e (early_state x s past) q.0) ∙ give-out e.reply (early_state x s past) q.1)
    where
      not-up : (y : Side) → expects (end_state y s past) ≡ true → is_up y s past ≡ false
      not-up y x = by-bool (is_up y s past ≡ false) (is_up y s past) (λ u. absurd (true≢false (sym x ∙ ap expects (state-up y s past u)))) (λ u. u)

      was : (y : Side) → e.event ≡ ClcEvent s (other y) → Answers setup payload s (other y) past e.reply → gives_up e.reply ≡ true → is_up y s past ≡ false
      was y ev (NotTaken i) g = absurd (true≢false (sym g ∙ ap gives_up i))
      was A ev (ForFault fault x f i) g = not-up A x
      was B ev (ForFault fault x f i) g = not-up B x
      was A ev (ByVerdict m len x f i) g = not-up A x
      was B ev (ByVerdict m len x f i) g = not-up B x

  early-none : (st : EndState) → is_early st ≡ false → is_none st ≡ false
  early-none NoEnd n = absurd (true≢false n)
  early-none _ n = refl

  pub returned-stays : (x : Side) (l : Lending) → (is_over_on setup payload x l past ≡ true → is_over_on setup payload x l (e ∷ past) ≡ true) → IsAmong l (lendings x past) → AreLendings x past → HasReturned setup payload x l past → HasReturned setup payload x l (e ∷ past)
  returned-stays x l stays i are (WithGroup g) = WithGroup (or-true (loses_group_with x l.group e past) (has_ended x l.group past) g)
  returned-stays x l stays i are (AsOver v) = AsOver (stays v)
  returned-stays x l stays i are (AsOut o) =
      let q = are.of_offer l i in
      let r = q.1 in
      let h = off l.s in
      AsOut (out-stays x l.s (ap is_none (sym (state-early x l.s past (out-not-up x l.s past o))) ∙ early-none (end_state x l.s past) (h.later x q.0 r.0)) o)

  -- each lending is lent, or has returned
  pub lent-or-returned : (x : Side) → ((l : Lending) → IsAmong l (lendings x past) → is_over_on setup payload x l past ≡ true → is_over_on setup payload x l (e ∷ past) ≡ true) → AreLendings x past
      → ((l : Lending) → IsAmong l (lendings x past) → IsAmong l (lent setup payload x past) ⊎ HasReturned setup payload x l past) → (l : Lending) → IsAmong l (lendings x (e ∷ past)) → IsAmong l (lent setup payload x (e ∷ past)) ⊎ HasReturned setup payload x l (e ∷ past)
  lent-or-returned x over are was l i = by (in-append l (filter_map (lends x) e.posts) (lendings x past) i)
    where
      c : Changes setup payload x e past
      c = changes setup payload past before e made st off x

      leaves : IsAmong l (lent setup payload x past) → returns setup payload x e past l ≡ true → HasReturned setup payload x l (e ∷ past)
      leaves j r = at (or-parts (leaves_handshake x l.s e.event e.reply) (loses_group_with x l.group e past || is_over_on setup payload x l (e ∷ past)) r)
        where
          rest : (loses_group_with x l.group e past ≡ true) ⊎ (is_over_on setup payload x l (e ∷ past) ≡ true) → HasReturned setup payload x l (e ∷ past)
          rest (inl q) = WithGroup (or-left (loses_group_with x l.group e past) (has_ended x l.group past) q)
          rest (inr q) = AsOver q

          at : (leaves_handshake x l.s e.event e.reply ≡ true) ⊎ ((loses_group_with x l.group e past || is_over_on setup payload x l (e ∷ past)) ≡ true) → HasReturned setup payload x l (e ∷ past)
          at (inl q) = AsOut (leaves-out x l.s q)
          at (inr q) = rest (or-parts (loses_group_with x l.group e past) (is_over_on setup payload x l (e ∷ past)) q)

      old : IsAmong l (lendings x past) → IsAmong l (lent setup payload x past) ⊎ HasReturned setup payload x l past → IsAmong l (lent setup payload x (e ∷ past)) ⊎ HasReturned setup payload x l (e ∷ past)
      old j (inl k) = by-bool _ (returns setup payload x e past l) (λ r. inr (leaves k r)) (λ r. inl (c.stays l k r))
      old j (inr h) = inr (returned-stays x l (over l j) j are h)

      by : IsAmong l (filter_map (lends x) e.posts) ⊎ IsAmong l (lendings x past) → IsAmong l (lent setup payload x (e ∷ past)) ⊎ HasReturned setup payload x l (e ∷ past)
      by (inl j) = inl (in-front l (filter_map (lends x) e.posts) _ j)
      by (inr j) = old j (was l j)

-- A's offer names the link that B's does
pub same-link : (setup : Setup) (payload : List ℕ) (past : List Entry) → IsMadeAll setup payload past → (s : ℕ) (o : Offered) → offered A s past ≡ Some o → named_link s past ≡ Some o.link
same-link setup payload [] m s o i = absurd (none-is o i)
same-link setup payload (e ∷ past) m s o i = let one = m.0 in by one.0 one.1 (same-link setup payload past m.1 s o) (new-or-old setup payload past one.0 e one.1 (states setup payload past m.1) (all-offers setup payload past m.1) A s)
  where
    named-stays : (before : ℕ) → IsMade setup payload past before e → (link : LinkId) → named_link s past ≡ Some link → named_link s (e ∷ past) ≡ Some link
    named-stays before made link n = at (offered B s past) refl
      where
        at : (q : Option Offered) → offered B s past ≡ q → named_link s (e ∷ past) ≡ Some link
        at None j = absurd (none-is link (sym (ap (λ r. option_map (λ (p : Offered). p.link) r) j) ∙ n))
        at (Some p) j = ap (λ r. option_map (λ (k : Offered). k.link) r) (kept setup payload past before e made (states setup payload past m.1) (all-offers setup payload past m.1) B s p j) ∙ (sym (ap (λ r. option_map (λ (k : Offered). k.link) r) j) ∙ n)

    by : (before : ℕ) → IsMade setup payload past before e → (offered A s past ≡ Some o → named_link s past ≡ Some o.link)
        → (offered A s (e ∷ past) ≡ offered A s past) ⊎ ((n : NewLending setup payload A e past) × ((s ≡ n.s) × (offered A s (e ∷ past) ≡ Some (record { link = n.link; offer = new_offer setup payload A n.first n.link past })))) → named_link s (e ∷ past) ≡ Some o.link
    by before made was (inl same) = named-stays before made o.link (was (sym same ∙ i))
    by before made was (inr q) =
        let n = q.0 in
        let r = q.1 in
        let new : Offered = record { link = n.link; offer = new_offer setup payload A n.first n.link past } in
        let is : o ≡ new = some-is o new (sym i ∙ r.1) in
        named-stays before made o.link (ap (λ t. named_link t past) r.0 ∙ (n.named_is refl ∙ ap (λ (p : Offered). Some p.link) (sym is)))

-- a lending's group is that of its socket's connection
pub lending-group : (setup : Setup) (payload : List ℕ) (past : List Entry) → IsMadeAll setup payload past → (x : Side) (l : Lending) → IsAmong l (lendings x past) → l.group ≡ group_on l.s past
lending-group setup payload past m x l i =
    let are = all-lendings setup payload past m x in
    let q = are.of_offer l i in
    let r = q.1 in
    ap (λ (k : Lending). k.group) r.1 ∙ sym (ap (λ n. unwrap_or (option_map (λ (link : LinkId). link.group) n) 0) (by x q.0 r.0))
  where
    by : (y : Side) (o : Offered) → offered y l.s past ≡ Some o → named_link l.s past ≡ Some o.link
    by A o j = same-link setup payload past m l.s o j
    by B o j = ap (λ n. option_map (λ (k : Offered). k.link) n) j
