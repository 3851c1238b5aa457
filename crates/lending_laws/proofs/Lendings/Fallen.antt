-- The row of the handshake that lendings want: where B has offered and its end is out, A's end is out too, or B's group has ended.
use Rattle.std.proofs.Common.{Bool, List, [], ap, drop, eq-eqb, eqb-true, false, filter_map, if◌then◌else◌, inl, inr, not, refl, subst, sym, true, true≢false, ℕ, ◌&&◌, ◌++◌, ◌==◌, ◌||◌, ◌∙◌, ◌∷◌, ◌≡◌, ◌⊎◌}
use Rattle.pipe_model.specs.declared.reply.Reply.TheVariants.{Idle, Sent}
use Rattle.pipe_model.specs.declared.reply.SentKind.TheVariants.{Accept as AcceptSent, Confirm as ConfirmSent, ConfirmRkey as KeySent, ConfirmLink as LinkSent}
use Rattle.std.specs.Prelude.{None, Option, Some, is_some, option_and_then, slice_index_or}
use Rattle.pipe_model.specs.declared.flow.FlowStep.TheVariants.{Live}
use Rattle.pipe_model.specs.Connections.{comes_up}
use Rattle.pipe_model.specs.Fallback.{opens}
use Rattle.pipe_model.specs.Replies.{told}
use Rattle.pipe_model.specs.declared.event.Event.TheVariants.{Clc as ClcEvent}
use Rattle.clc_wire.specs.declared.message.ClcMessage.TheVariants.{Accept as AcceptMessage, Confirm as ConfirmMessage, Decline as DeclineMessage, Proposal as ProposalMessage}
use Rattle.std.specs.Option.{option_or}
use Rattle.pipe_model.specs.Lawful.{asked}
use Rattle.std.specs.List.{cons_option}
use Rattle.history_laws.specs.Words.{A, Act, B, ClcMessage, Declined, EndState, Entry, Established, Event, FellBack, FlowStep, HasFallen, Held, IsUp, LinkId, NameUsed, NoEnd, NotCapable, Offer, Offered, Open, Opened, Proposal, Refusal, Reply, Reset, Setup, Side, WaitsAnswer, WaitsConfirm, WaitsLink, WaitsProposal, WasReset, act_in, after_clc, after_event, after_loss, clc_in, confirmed_by, early_state, end_state, gives_up, group_on, is_name_used, is_opened, is_out, is_raw, is_up, loses_group_with, named_link, new_offer, offered, proposal, reply_of, takes_clc, takes_message, untaken, up_by}
use Rattle.history_laws.specs.Offers.{HasOffers, HasStates, HasStream, IsProposed, NewLending, NoProposal, is_early, is_none}
use Rattle.history_laws.specs.Lists.{IsAmong}
use Rattle.history_laws.proofs.Basics.{by-bool, none-is, or-left, or-none, or-parts}
use Rattle.history_laws.specs.Made.{IsMadeAll, IsMade}
use Rattle.history_laws.proofs.Offers.{Answers, AsConfirmed, AsDeclined, AsOpened, ByVerdict, Does, DoesBegin, DoesNothing, DoesTake, ForFault, NewMessage, NotTaken, all-offers, answers, does, in-append, in-drop, loss-none, messages-are, new-message, new-or-old, none-expects, opens-new, state-early, state-up, states, taken-as}
use Rattle.lending_laws.specs.Owed.{OwedWith}
use Rattle.lending_laws.proofs.Lendings.Returns.{leaves-out, out-stays}
use Rattle.lending_laws.proofs.Lendings.Apart.{leaves-by}

-- states
pub none-out : (st : EndState) → is_none st ≡ true → is_out st ≡ true
none-out NoEnd n = refl
none-out WaitsProposal n = cc
none-out WaitsAnswer n = cc
none-out WaitsConfirm n = cc
none-out WaitsLink n = cc
none-out IsUp n = cc
none-out HasFallen n = cc
none-out (WasReset cause) n = cc

none-early : (st : EndState) → is_none st ≡ true → is_early st ≡ true
none-early NoEnd n = refl
none-early WaitsProposal n = cc
none-early WaitsAnswer n = cc
none-early WaitsConfirm n = cc
none-early WaitsLink n = cc
none-early IsUp n = cc
none-early HasFallen n = cc
none-early (WasReset cause) n = cc

take-some : (r : Reply) (st : EndState) → is_none st ≡ false → is_none (after_clc r st) ≡ false
take-some (Sent AcceptSent) st n = refl
take-some (Sent ConfirmSent) st n = refl
take-some (Sent LinkSent) st n = refl
take-some (Declined lack) st n = refl
take-some FellBack st n = refl
take-some (Reset cause) st n = refl
take-some _ st n = n

give-some : (r : Reply) (st : EndState) → gives_up r ≡ true → is_none (after_clc r st) ≡ false
give-some (Declined lack) st g = refl
give-some FellBack st g = refl
give-some (Reset cause) st g = refl
give-some _ st g = absurd (true≢false (sym g))

-- a message that is not taken leaves the end as it is
left-same : (r : Reply) (st : EndState) → takes_message r ≡ false → after_clc r st ≡ st
left-same Idle st t = refl
left-same (Held hold) st t = refl
left-same (Sent KeySent) st t = refl
left-same _ st t = absurd (true≢false t)

loss-early : (b : Bool) (g : ℕ) (st : EndState) → is_early st ≡ true → is_early (after_loss b g st) ≡ true
loss-early true g NoEnd e = refl
loss-early true g WaitsProposal e = refl
loss-early true g WaitsAnswer e = refl
loss-early true g WaitsConfirm e = absurd (true≢false (sym e))
loss-early true g WaitsLink e = absurd (true≢false (sym e))
loss-early true g IsUp e = absurd (true≢false (sym e))
loss-early true g HasFallen e = absurd (true≢false (sym e))
loss-early true g (WasReset cause) e = absurd (true≢false (sym e))
loss-early false g st e = e

list-nil : (ms : List ClcMessage) → ((m : ClcMessage) → IsAmong m ms → ⊥) → ms ≡ []
list-nil [] f = refl
list-nil (m ∷ ms) f = absurd (f m (inl refl))

-- without an offer no link of first contact brings an end up
none-confirmed : (o : Option Offered) → o ≡ None → (a : Option Act) → option_and_then (λ act. confirmed_by o act.link act.step) a ≡ None
none-confirmed None i None = refl
none-confirmed None i (Some act) = by act.step
  where
    by : (w : FlowStep) → confirmed_by None act.link w ≡ None
    by (Live reply true) = refl
    by _ = refl
none-confirmed (Some o) i a = absurd (none-is o (sym i))

module _ (setup : Setup) (payload : List ℕ) (e : Entry) (past : List Entry) (m : IsMadeAll setup payload (e ∷ past)) (with_it : OwedWith e past) (s : ℕ) (h : HasStream s past) where
  abbrev one : (before : ℕ) × IsMade setup payload past before e
  one = m.0

  abbrev st : HasStates s past
  st = states setup payload past m.1 s

  abbrev now : HasStates s (e ∷ past)
  now = states setup payload (e ∷ past) m s

  abbrev off : HasOffers s past
  off = all-offers setup payload past m.1 s

  abbrev mid : Side → EndState
  mid x = after_event x s e.event e.reply (early_state x s past)

  -- an end that there is stays
  some-stays : (x : Side) → is_none (early_state x s past) ≡ false → is_none (early_state x s (e ∷ past)) ≡ false
  some-stays x n = loss-none (loses_group_with x (group_on s past) e past) (group_on s past) (mid x) ∙ by (does setup payload past one.0 e one.1 s (st.begun x n) x (early_state x s past))
    where
      by : Does x s e (early_state x s past) (mid x) → is_none (mid x) ≡ false
      by (DoesNothing i) = ap is_none i ∙ n
      by (DoesTake ev i) = ap is_none i ∙ take-some e.reply (early_state x s past) n
      by (DoesBegin z b i) = absurd (true≢false (sym z ∙ n))

  pub down-after : (x : Side) → is_none (early_state x s (e ∷ past)) ≡ true → is_up x s (e ∷ past) ≡ false
  down-after x n = at (by-bool ((is_none (early_state x s past) ≡ true) ⊎ (is_none (early_state x s past) ≡ false)) (is_none (early_state x s past)) inl inr)
    where
      at : (is_none (early_state x s past) ≡ true) ⊎ (is_none (early_state x s past) ≡ false) → is_up x s (e ∷ past) ≡ false
      at (inr k) = absurd (true≢false (sym n ∙ some-stays x k))
      at (inl k) = by (comes_up x s e past) refl
        where
          by : (c : Option LinkId) → comes_up x s e past ≡ c → is_up x s (e ∷ past) ≡ false
          by None i = ap (λ c. is_some c || is_up x s past) i ∙ h.down x k
          by (Some link) i = absurd (true≢false (sym (ap is_out (state-early x s past (h.down x k)) ∙ none-out (early_state x s past) k) ∙ with_it.waits x s link i))

  -- the event opens the socket
  opens-as : opens s e.event e.reply ≡ true → (e.event ≡ Open s) × (is_none (mid A) ≡ false)
  opens-as o = by e.event refl o
    where
      first : (a b : Bool) → (a && b) ≡ true → (a ≡ true) × (b ≡ true)
      first true b q = (refl, q)
      first false b q = absurd (true≢false (sym q))

      by : (v : Event) → e.event ≡ v → opens s v e.reply ≡ true → (e.event ≡ Open s) × (is_none (mid A) ≡ false)
      by (Open t) g p =
          let q = first (s == t) (not (is_name_used e.reply)) p in
          let is : s ≡ t = eqb-true s t q.0 in
          (g ∙ ap (λ n. Open n) (sym is), ap (λ v. is_none (after_event A s v e.reply (early_state A s past))) g ∙ at (is_opened t past || is_raw t past) (not (slice_index_or setup.capable 0 false && slice_index_or setup.capable 1 false)) (made-reply t g) q.0 q.1)
        where
          made-reply : (t : ℕ) → e.event ≡ Open t → e.reply ≡ (if is_opened t past || is_raw t past then NameUsed else if not (slice_index_or setup.capable 0 false && slice_index_or setup.capable 1 false) then Declined (NotCapable (slice_index_or setup.capable 0 false) (slice_index_or setup.capable 1 false)) else Opened)
          made-reply t g = (let w = one.1 in w.reply ∙ ap (λ v. reply_of one.0 (told setup payload past v)) g)

          at : (b c : Bool) → e.reply ≡ (if b then NameUsed else if c then Declined (NotCapable (slice_index_or setup.capable 0 false) (slice_index_or setup.capable 1 false)) else Opened) → (s == t) ≡ true → not (is_name_used e.reply) ≡ true → is_none (after_event A s (Open t) e.reply (early_state A s past)) ≡ false
          at true c r q n = absurd (true≢false (sym n ∙ ap (λ k. not (is_name_used k)) r))
          at false true r q n = ap (λ k. is_none (after_event A s (Open t) k (early_state A s past))) r ∙ ap (λ b. is_none (if b then HasFallen else early_state A s past)) q
          at false false r q n = ap (λ k. is_none (after_event A s (Open t) k (early_state A s past))) r ∙ ap (λ b. is_none (if b then WaitsAnswer else early_state A s past)) q
      by v g p = absurd (true≢false (sym p))

  some-after : is_opened s (e ∷ past) ≡ true → is_none (early_state A s (e ∷ past)) ≡ false
  some-after o = by (or-parts (opens s e.event e.reply) (is_opened s past) o)
    where
      by : (opens s e.event e.reply ≡ true) ⊎ (is_opened s past ≡ true) → is_none (early_state A s (e ∷ past)) ≡ false
      by (inl p) = (let q = opens-as p in loss-none (loses_group_with A (group_on s past) e past) (group_on s past) (mid A) ∙ q.1)
      by (inr p) = some-stays A (h.some p)

  -- A answers only where it has an end
  answers-some : e.event ≡ ClcEvent s B → gives_up e.reply ≡ true → is_none (early_state A s past) ≡ false
  answers-some ev g = by-bool (is_none (early_state A s past) ≡ false) (is_none (early_state A s past)) (λ n. absurd (by n (answers setup payload past one.0 e one.1 s B ev))) (λ n. n)
    where
      by : is_none (early_state A s past) ≡ true → Answers setup payload s B past e.reply → ⊥
      by n (NotTaken i) = true≢false (sym g ∙ ap gives_up i)
      by n (ForFault fault x f i) = true≢false (sym x ∙ none-expects A s past n)
      by n (ByVerdict k len x f i) = true≢false (sym x ∙ none-expects A s past n)

  abbrev old : List ClcMessage
  old = drop (if takes_clc A s e.event e.reply then 1 else 0) (untaken A s past)

  abbrev new : List ClcMessage
  new = filter_map (clc_in A s) e.posts

  unopened-after : is_opened s (e ∷ past) ≡ false → untaken A s (e ∷ past) ≡ []
  unopened-after o = list-nil (untaken A s (e ∷ past)) (λ k i. by k i (in-append k old new i))
    where
      parts : (opens s e.event e.reply ≡ false) × (is_opened s past ≡ false)
      parts = or-none (opens s e.event e.reply) (is_opened s past) o

      not-opened : is_none (early_state A s past) ≡ false → ⊥
      not-opened n = (let p = or-none (opens s e.event e.reply) (is_opened s past) o in true≢false (sym (st.opened n) ∙ p.1))

      at : (k : ClcMessage) → IsAmong k (untaken A s (e ∷ past)) → NewMessage s e k → ⊥
      at k i (AsOpened ev r p q) = true≢false (sym (ap (λ v. opens s v e.reply) ev ∙ (ap (λ r. opens s (Open s) r) r ∙ ap (λ b. b && true) (eq-eqb s s refl))) ∙ (let p = or-none (opens s e.event e.reply) (is_opened s past) o in p.0))
      at k i (AsDeclined ev g r q) = not-opened (answers-some ev g)
      at k i (AsConfirmed p q) =
          let offers = all-offers setup payload (e ∷ past) m s in
          let c = offers.confirmed p (subst (λ n. IsAmong n (untaken A s (e ∷ past))) q i) in
          let late = offers.later A (record { link = c.0; offer = p }) c.1 in
          let some : is_none (early_state A s (e ∷ past)) ≡ false = by-bool (is_none (early_state A s (e ∷ past)) ≡ false) (is_none (early_state A s (e ∷ past)))
          (λ n. absurd (true≢false (sym (none-early (early_state A s (e ∷ past)) n) ∙ (ap is_early (sym (state-early A s (e ∷ past) (down-after A n))) ∙ late)))) (λ n. n) in
          true≢false (sym (now.opened some) ∙ o)

      by : (k : ClcMessage) → IsAmong k (untaken A s (e ∷ past)) → IsAmong k old ⊎ IsAmong k new → ⊥
      by k i (inl j) = (let p = or-none (opens s e.event e.reply) (is_opened s past) o in subst (λ ms. IsAmong k ms) (h.unopened p.1) (in-drop k (if takes_clc A s e.event e.reply then 1 else 0) (untaken A s past) j))
      by k i (inr j) = at k i (new-message setup payload past one.0 e one.1 s k j)

  -- a message that came with the entry is no Proposal, where it did not open the socket
  new-none : (opens s e.event e.reply ≡ false) → NoProposal new
  new-none o p i = by (new-message setup payload past one.0 e one.1 s (ProposalMessage p) i)
    where
      by : NewMessage s e (ProposalMessage p) → ⊥
      by (AsOpened ev r q w) = true≢false (sym (ap (λ v. opens s v e.reply) ev ∙ (ap (λ r. opens s (Open s) r) r ∙ ap (λ b. b && true) (eq-eqb s s refl))) ∙ o)
      by (AsDeclined ev g r w) = (let z : ProposalMessage p ≡ DeclineMessage r = w in cc)
      by (AsConfirmed q w) = (let z : ProposalMessage p ≡ ConfirmMessage q = w in cc)

  -- B goes on waiting where nothing is taken from A's stream
  early-stays : (is_opened s past || is_raw s past) ≡ true → is_early (end_state B s past) ≡ true → takes_clc A s e.event e.reply ≡ false → is_early (end_state B s (e ∷ past)) ≡ true
  early-stays known early left =
      let low : is_up B s past ≡ false = by-bool (is_up B s past ≡ false) (is_up B s past) (λ u. absurd (true≢false (sym early ∙ ap is_early (state-up B s past u)))) (λ u. u) in
      let still : is_up B s (e ∷ past) ≡ false = ap (λ c. is_some c || is_up B s past) nobody ∙ low in
      ap is_early (state-early B s (e ∷ past) still) ∙ loss-early (loses_group_with B (group_on s past) e past) (group_on s past) (mid B) (by (does setup payload past one.0 e one.1 s known B (early_state B s past)) (ap is_early (sym (state-early B s past low)) ∙ early))
    where
      none : offered B s past ≡ None
      none = at (offered B s past) refl
        where
          at : (o : Option Offered) → offered B s past ≡ o → offered B s past ≡ None
          at None i = i
          at (Some o) i = absurd (true≢false (sym early ∙ off.later B o i))

      quiet : (v : Event) (r : Reply) → takes_clc A s v r ≡ false → up_by B s v r past ≡ None
      quiet (ClcEvent t A) Established l = ap (λ b. if b then named_link s past else None) (by-bool ((s == t) ≡ false) (s == t) (λ q. absurd (true≢false (sym (ap (λ b. b && true) q) ∙ l))) (λ q. q))
      quiet v r l = refl

      nobody : comes_up B s e past ≡ None
      nobody = ap (λ o. option_or o (option_and_then (λ act. confirmed_by (offered B s past) act.link act.step) (act_in B e past))) (quiet e.event e.reply left) ∙ none-confirmed (offered B s past) none (act_in B e past)

      by : Does B s e (early_state B s past) (mid B) → is_early (early_state B s past) ≡ true → is_early (mid B) ≡ true
      by (DoesNothing i) f = ap is_early i ∙ f
      by (DoesTake ev i) f = ap is_early (i ∙ left-same e.reply (early_state B s past) (sym (ap (λ b. b && takes_message e.reply) (eq-eqb s s refl)) ∙ (sym (ap (λ v. takes_clc A s v e.reply) ev) ∙ left))) ∙ f
      by (DoesBegin z b i) f = ap is_early i

  -- the Proposal comes as the socket is opened
  opened-shape : opens s e.event e.reply ≡ true → NoProposal (untaken A s (e ∷ past)) ⊎ IsProposed s (e ∷ past)
  opened-shape o = by new refl
    where
      ev : e.event ≡ Open s
      ev = (let q = opens-as o in q.0)

      fresh : (is_opened s past || is_raw s past) ≡ false
      fresh = opens-new setup payload past one.0 e one.1 s st o

      empty : untaken A s past ≡ []
      empty = (let p = or-none (is_opened s past) (is_raw s past) fresh in h.unopened p.0)

      no-end : (x : Side) → is_none (early_state x s past) ≡ true
      no-end x = by-bool (is_none (early_state x s past) ≡ true) (is_none (early_state x s past)) (λ n. n) (λ n. absurd (true≢false (sym (st.begun x n) ∙ fresh)))

      stream : untaken A s (e ∷ past) ≡ new
      stream = ap (λ v. drop (if takes_clc A s v e.reply then 1 else 0) (untaken A s past) ++ new) ev ∙ ap (λ ms. ms ++ new) empty

      -- B waits for it, where it is posted
      waits : e.reply ≡ Opened → is_early (end_state B s (e ∷ past)) ≡ true
      waits r =
          let n = no-end B in
          let low : is_up B s (e ∷ past) ≡ false = up-none (comes_up B s e past) refl in
          ap is_early (state-early B s (e ∷ past) low) ∙ loss-early (loses_group_with B (group_on s past) e past) (group_on s past) (mid B)
          (ap (λ v. is_early (after_event B s v e.reply (early_state B s past))) ev ∙ (ap (λ q. is_early (after_event B s (Open s) q (early_state B s past))) r ∙ ap (λ b. is_early (if b then WaitsProposal else early_state B s past)) (eq-eqb s s refl)))
        where
          up-none : (c : Option LinkId) → comes_up B s e past ≡ c → is_up B s (e ∷ past) ≡ false
          up-none None i = ap (λ c. is_some c || is_up B s past) i ∙ h.down B (no-end B)
          up-none (Some link) i = absurd (true≢false (sym (ap is_out (state-early B s past (h.down B (no-end B))) ∙ none-out (early_state B s past) (no-end B)) ∙ with_it.waits B s link i))

      by : (ms : List ClcMessage) → new ≡ ms → NoProposal (untaken A s (e ∷ past)) ⊎ IsProposed s (e ∷ past)
      by [] i = inl (λ p j. subst (λ ms. IsAmong (ProposalMessage p) ms) (stream ∙ i) j)
      by (k ∷ ks) i = at (new-message setup payload past one.0 e one.1 s k (subst (λ ms. IsAmong k ms) (sym i) (inl refl)))
        where
          rest-nil : e.reply ≡ Opened → ks ≡ []
          rest-nil r = one-post k ks (sym i ∙ (messages-are setup payload past one.0 e one.1 s ∙ (ap (λ v. filter_map (clc_in A s) (asked setup payload past v e.reply)) ev ∙ ap (λ q. filter_map (clc_in A s) (asked setup payload past (Open s) q)) r)))
            where
              one-post : (n : ClcMessage) (ns : List ClcMessage) → n ∷ ns ≡ cons_option (if s == s then Some (ProposalMessage (proposal setup)) else None) [] → ns ≡ []
              one-post n ns j = by-eq (s == s) j
                where
                  by-eq : (b : Bool) → n ∷ ns ≡ cons_option (if b then Some (ProposalMessage (proposal setup)) else None) [] → ns ≡ []
                  by-eq true j = cc
                  by-eq false j = cc

          at : NewMessage s e k → NoProposal (untaken A s (e ∷ past)) ⊎ IsProposed s (e ∷ past)
          at (AsOpened ev2 r p q) = inr (record {
            early = waits r;
            proposal = p;
            rest = ks;
            stream_is = stream ∙ (i ∙ ap (λ n. n ∷ ks) q);
            none = λ w j. subst (λ ms. IsAmong (ProposalMessage w) ms) (rest-nil r) j;
          })
          at (AsDeclined ev2 g r q) = (let z : Open s ≡ ClcEvent s B = sym ev ∙ ev2 in cc)
          at (AsConfirmed p q) =
              let offers = all-offers setup payload (e ∷ past) m s in
              let c = offers.confirmed p (subst (λ ms. IsAmong (ConfirmMessage p) ms) (sym (stream ∙ i)) (inl (sym q))) in
              absurd (not-event (of-entry-now c.0 c.1))
            where
              not-event : e.event ≡ ClcEvent s B → ⊥
              not-event g = (let z : Open s ≡ ClcEvent s B = sym ev ∙ g in cc)

              of-entry-now : (link : LinkId) → offered A s (e ∷ past) ≡ Some (record { link = link; offer = p }) → e.event ≡ ClcEvent s B
              of-entry-now link g = was (new-or-old setup payload past one.0 e one.1 (states setup payload past m.1) (all-offers setup payload past m.1) A s)
                where
                  was : (offered A s (e ∷ past) ≡ offered A s past) ⊎ ((n : NewLending setup payload A e past) × ((s ≡ n.s) × (offered A s (e ∷ past) ≡ Some (record { link = n.link; offer = new_offer setup payload A n.first n.link past })))) → e.event ≡ ClcEvent s B
                  was (inl same) = absurd (true≢false (sym (none-early (early_state A s past) (no-end A)) ∙ (ap is_early (sym (state-early A s past (h.down A (no-end A)))) ∙ off.later A (record { link = link; offer = p }) (sym same ∙ g))))
                  was (inr q) = (let n = q.0 in let r = q.1 in n.event_is ∙ ap (λ t. ClcEvent t B) (sym r.0))

  shape-after : NoProposal (untaken A s (e ∷ past)) ⊎ IsProposed s (e ∷ past)
  shape-after = by-bool _ (opens s e.event e.reply) opened-shape (λ o. by o h.shape)
    where
      none-in : NoProposal old → NoProposal new → NoProposal (untaken A s (e ∷ past))
      none-in f g p i = at (in-append (ProposalMessage p) old new i)
        where
          at : IsAmong (ProposalMessage p) old ⊎ IsAmong (ProposalMessage p) new → ⊥
          at (inl j) = f p j
          at (inr j) = g p j

      by : opens s e.event e.reply ≡ false → NoProposal (untaken A s past) ⊎ IsProposed s past → NoProposal (untaken A s (e ∷ past)) ⊎ IsProposed s (e ∷ past)
      by o (inl f) = inl (none-in (λ p i. f p (in-drop (ProposalMessage p) (if takes_clc A s e.event e.reply then 1 else 0) (untaken A s past) i)) (new-none o))
      by o (inr q) = by-bool _ (takes_clc A s e.event e.reply) taken left
        where
          taken : takes_clc A s e.event e.reply ≡ true → NoProposal (untaken A s (e ∷ past)) ⊎ IsProposed s (e ∷ past)
          taken t = inl (none-in (λ p i. q.none p (subst (λ ms. IsAmong (ProposalMessage p) ms) (ap (λ b. drop (if b then 1 else 0) (untaken A s past)) t ∙ ap (λ (ms : List ClcMessage). drop 1 ms) q.stream_is) i)) (new-none o))

          left : takes_clc A s e.event e.reply ≡ false → NoProposal (untaken A s (e ∷ past)) ⊎ IsProposed s (e ∷ past)
          left t = inr (record {
            early = early-stays known q.early t;
            proposal = q.proposal;
            rest = q.rest ++ new;
            stream_is = ap (λ b. drop (if b then 1 else 0) (untaken A s past) ++ new) t ∙ ap (λ ms. ms ++ new) q.stream_is;
            none = λ p i. at p (in-append (ProposalMessage p) q.rest new i);
          })
            where
              known : (is_opened s past || is_raw s past) ≡ true
              known = or-left (is_opened s past) (is_raw s past) (by-bool (is_opened s past ≡ true) (is_opened s past) (λ k. k) (λ k. absurd (empty-not q.proposal q.rest (sym q.stream_is ∙ h.unopened k))))
                where
                  empty-not : (p : Proposal) (ms : List ClcMessage) → ProposalMessage p ∷ ms ≡ [] → ⊥
                  empty-not p ms w = cc

              at : (p : Proposal) → IsAmong (ProposalMessage p) q.rest ⊎ IsAmong (ProposalMessage p) new → ⊥
              at p (inl j) = q.none p j
              at p (inr j) = new-none o p j

  accept-after : (o : Offer) → IsAmong (AcceptMessage o) (untaken A s (e ∷ past)) → ⊥
  accept-after o i = by (in-append (AcceptMessage o) old new i)
    where
      at : NewMessage s e (AcceptMessage o) → ⊥
      at (AsOpened ev r q w) = (let z : AcceptMessage o ≡ ProposalMessage q = w in cc)
      at (AsDeclined ev g r w) = (let z : AcceptMessage o ≡ DeclineMessage r = w in cc)
      at (AsConfirmed q w) = (let z : AcceptMessage o ≡ ConfirmMessage q = w in cc)

      by : IsAmong (AcceptMessage o) old ⊎ IsAmong (AcceptMessage o) new → ⊥
      by (inl j) = h.no_accept o (in-drop (AcceptMessage o) (if takes_clc A s e.event e.reply then 1 else 0) (untaken A s past) j)
      by (inr j) = at (new-message setup payload past one.0 e one.1 s (AcceptMessage o) j)

  declined-after : (r : Refusal) → IsAmong (DeclineMessage r) (untaken A s (e ∷ past)) → (is_out (end_state A s (e ∷ past)) ≡ true) × (is_none (early_state A s (e ∷ past)) ≡ false)
  declined-after r i = by (in-append (DeclineMessage r) old new i)
    where
      at : NewMessage s e (DeclineMessage r) → (is_out (end_state A s (e ∷ past)) ≡ true) × (is_none (early_state A s (e ∷ past)) ≡ false)
      at (AsOpened ev k q w) = (let z : DeclineMessage r ≡ ProposalMessage q = w in cc)
      at (AsDeclined ev g k w) = (
        leaves-out setup payload past one.0 e one.1 (states setup payload past m.1) (all-offers setup payload past m.1) with_it A s (leaves-by A s e ev g),
        loss-none (loses_group_with A (group_on s past) e past) (group_on s past) (mid A) ∙ (ap is_none (taken-as A s e (early_state A s past) ev) ∙ give-some e.reply (early_state A s past) g),
      )
      at (AsConfirmed q w) = (let z : DeclineMessage r ≡ ConfirmMessage q = w in cc)

      by : IsAmong (DeclineMessage r) old ⊎ IsAmong (DeclineMessage r) new → (is_out (end_state A s (e ∷ past)) ≡ true) × (is_none (early_state A s (e ∷ past)) ≡ false)
      by (inl j) = (let q = h.declined r (in-drop (DeclineMessage r) (if takes_clc A s e.event e.reply then 1 else 0) (untaken A s past) j) in (out-stays setup payload past one.0 e one.1 (states setup payload past m.1) (all-offers setup payload past m.1) with_it A s q.1 q.0, some-stays A q.1))
      by (inr j) = at (new-message setup payload past one.0 e one.1 s (DeclineMessage r) j)

  pub stream-after : HasStream s (e ∷ past)
  stream-after = record { down = down-after; some = some-after; unopened = unopened-after; shape = shape-after; no_accept = accept-after; declined = declined-after }
