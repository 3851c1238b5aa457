-- Over every history places are in range and those of lent elements differ; what is lent is of the side's group and held by its end.
use Rattle.std.proofs.Common.{Bool, List, [], ap, eq-eqb, eqb-true, false, filter_map, inl, inr, not, refl, subst, sym, true, true≢false, ℕ, ◌&&◌, ◌==◌, ◌||◌, ◌∙◌, ◌∷◌, ◌≡◌, ◌⊎◌}
use Rattle.pipe_model.specs.declared.reply.Reply.TheVariants.{Sent}
use Rattle.pipe_model.specs.declared.reply.SentKind.TheVariants.{Accept as AcceptSent, Confirm as ConfirmSent, ConfirmLink as LinkSent}
use Rattle.pipe_model.specs.declared.event.Event.TheVariants.{Clc as ClcEvent}
use Rattle.std.specs.Prelude.{is_some, option_map, unwrap_or}
use Rattle.pipe_model.specs.Connections.{comes_up}
use Rattle.history_laws.specs.Words.{A, B, Declined, EndState, Entry, FellBack, Lending, LinkId, Place, Reply, Reset, Setup, Side, WaitsConfirm, after_clc, after_event, after_loss, all_places, early_state, elements_of, end_state, gives_up, group_of, group_on, is_out, is_over_on, is_up, leaves_handshake, lendings, lends, lends_by, lent, loses_group_with, new_offer, other, returns, rmbs_of, same_place}
use Rattle.history_laws.specs.Made.{IsMadeAll, IsMade}
use Rattle.history_laws.specs.Offers.{Begins, BeginsNone, BeginsOne, HasOffers, HasStates, NewLending, is_early}
use Rattle.history_laws.proofs.Offers.{Does, DoesBegin, DoesNothing, DoesTake, all-offers, begins, does, in-append, not-none, state-early, state-up, states, taken-as}
use Rattle.history_laws.specs.Lists.{IsAmong}
use Rattle.history_laws.proofs.Basics.{by-bool, or-none}
use Rattle.lending_laws.specs.Lendings.{AreApart, HasElements}
use Rattle.lending_laws.specs.Owed.{OwedLendings}
use Rattle.lending_laws.proofs.Lendings.Lendings.{all-lendings, changes, in-new, lent-was}
use Rattle.lending_laws.proofs.Lendings.Returns.{lending-group, out-early}
use Rattle.lending_laws.proofs.Lendings.Done.{loss-ends, new-ends}
use Rattle.lending_laws.proofs.Lendings.Owed.{all-grouped, all-psn, owed-now}
use Rattle.lending_laws.proofs.Lendings.Groups.{new-fits}
use Rattle.lending_laws.proofs.Lendings.Places.{all-groups, fresh-place}

same-turned : (p q : Place) → same_place p q ≡ true → same_place q p ≡ true
same-turned p q e =
    let r : p.rmb ≡ q.rmb = eqb-true p.rmb q.rmb (first (p.rmb == q.rmb) (p.index == q.index) e) in
    let i : p.index ≡ q.index = eqb-true p.index q.index (second (p.rmb == q.rmb) (p.index == q.index) e) in
    ap (λ b. b && (q.index == p.index)) (eq-eqb q.rmb p.rmb (sym r)) ∙ eq-eqb q.index p.index (sym i)
  where
    first : (a b : Bool) → (a && b) ≡ true → a ≡ true
    first true b h = refl
    first false b h = absurd (true≢false (sym h))

    second : (a b : Bool) → (a && b) ≡ true → b ≡ true
    second true b h = h
    second false b h = absurd (true≢false (sym h))

-- an answer that takes an end out gives up
pub take-out : (r : Reply) (st : EndState) → is_out st ≡ false → is_out (after_clc r st) ≡ true → gives_up r ≡ true
take-out (Sent AcceptSent) st n o = absurd (true≢false (sym o))
take-out (Sent ConfirmSent) st n o = absurd (true≢false (sym o))
take-out (Sent LinkSent) st n o = absurd (true≢false (sym o))
take-out (Declined lack) st n o = refl
take-out FellBack st n o = refl
take-out (Reset cause) st n o = refl
take-out _ st n o = absurd (true≢false (sym o ∙ n))

pub leaves-by : (x : Side) (s : ℕ) (e : Entry) → e.event ≡ ClcEvent s (other x) → gives_up e.reply ≡ true → leaves_handshake x s e.event e.reply ≡ true
leaves-by A s e ev g = ap (λ v. leaves_handshake A s v e.reply) ev ∙ (ap (λ b. b && gives_up e.reply) (eq-eqb s s refl) ∙ g)
leaves-by B s e ev g = ap (λ v. leaves_handshake B s v e.reply) ev ∙ (ap (λ b. b && gives_up e.reply) (eq-eqb s s refl) ∙ g)

pub waits-stays : (b : Bool) (g : ℕ) → is_out (after_loss b g WaitsConfirm) ≡ false
waits-stays true g = refl
waits-stays false g = refl

not-lost : (z g h : Bool) → h ≡ true → (not z && (g && not h)) ≡ false
not-lost true g h e = refl
not-lost false true h e = ap (λ b. not b) e
not-lost false false h e = refl

module _ (setup : Setup) (elements : HasElements setup) (payload : List ℕ) (e : Entry) (past : List Entry) (m : IsMadeAll setup payload (e ∷ past)) (w : OwedLendings setup payload past) (x : Side) where
  abbrev one : (before : ℕ) × IsMade setup payload past before e
  one = m.0

  abbrev st : (s : ℕ) → HasStates s past
  st = states setup payload past m.1

  abbrev off : (s : ℕ) → HasOffers s past
  off = all-offers setup payload past m.1

  -- an end whose lending goes on
  old-holds : (l : Lending) → IsAmong l (lendings x past) → is_out (end_state x l.s past) ≡ false → returns setup payload x e past l ≡ false → is_out (end_state x l.s (e ∷ past)) ≡ false
  old-holds l i n r = by-bool (is_out (end_state x l.s (e ∷ past)) ≡ false) (is_out (end_state x l.s (e ∷ past))) (λ o. absurd (never o)) (λ o. o)
    where
      never : is_out (end_state x l.s (e ∷ past)) ≡ true → ⊥
      never o =
          let low : is_up x l.s (e ∷ past) ≡ false = by-bool (is_up x l.s (e ∷ past) ≡ false) (is_up x l.s (e ∷ past)) (λ u. absurd (true≢false (sym o ∙ ap is_out (state-up x l.s (e ∷ past) u)))) (λ u. u) in
          let was = or-none (is_some (comes_up x l.s e past)) (is_up x l.s past) low in
          let early : end_state x l.s past ≡ early_state x l.s past = state-early x l.s past was.1 in
          let a = or-none (leaves_handshake x l.s e.event e.reply) (loses_group_with x l.group e past || is_over_on setup payload x l (e ∷ past)) r in
          let b = or-none (loses_group_with x l.group e past) (is_over_on setup payload x l (e ∷ past)) a.1 in
          let are = all-lendings setup payload past m.1 x in
          let q = are.of_offer l i in
          let k = q.1 in
          let later : is_early (end_state x l.s past) ≡ false = (let h = off l.s in h.later x q.0 k.0) in
          let group : l.group ≡ group_on l.s past = lending-group setup payload past m.1 x l i in
          at (sym (ap is_early early) ∙ later) (sym (ap is_out early) ∙ n) a.0 (ap (λ g. loses_group_with x g e past) (sym group) ∙ b.0) (out-early x l.s (e ∷ past) o)
        where
          at : is_early (early_state x l.s past) ≡ false → is_out (early_state x l.s past) ≡ false → leaves_handshake x l.s e.event e.reply ≡ false → loses_group_with x (group_on l.s past) e past ≡ false → is_out (early_state x l.s (e ∷ past)) ≡ true → ⊥
          at f g leaves loses out = go (by-bool ((is_out mid ≡ true) ⊎ (is_out mid ≡ false)) (is_out mid) inl inr)
            where
              mid : EndState
              mid = after_event x l.s e.event e.reply (early_state x l.s past)

              by : Does x l.s e (early_state x l.s past) (after_event x l.s e.event e.reply (early_state x l.s past)) → is_out (after_event x l.s e.event e.reply (early_state x l.s past)) ≡ true → ⊥
              by (DoesNothing i) c = true≢false (sym c ∙ (ap is_out i ∙ g))
              by (DoesTake ev i) c = true≢false (sym (leaves-by x l.s e ev (take-out e.reply (early_state x l.s past) g (sym (ap is_out i) ∙ c))) ∙ leaves)
              by (DoesBegin z b i) c = true≢false (sym z ∙ not-none (early_state x l.s past) f)

              go : (is_out mid ≡ true) ⊎ (is_out mid ≡ false) → ⊥
              go (inl c) = by (let h = st l.s in does setup payload past one.0 e one.1 l.s (h.begun x (not-none (early_state x l.s past) f)) x (early_state x l.s past)) c
              go (inr c) = true≢false (sym (loss-ends (loses_group_with x (group_on l.s past) e past) (group_on l.s past) mid c out) ∙ loses)

  -- one that begins
  new-holds : (y : Side) (n : NewLending setup payload y e past) → is_out (end_state y n.s (e ∷ past)) ≡ false
  new-holds B n = by-bool (is_out (end_state B n.s (e ∷ past)) ≡ false) (is_up B n.s (e ∷ past)) (λ u. ap is_out (state-up B n.s (e ∷ past) u))
      (λ u. ap is_out (state-early B n.s (e ∷ past) u) ∙ (ap (λ q. is_out (after_loss (loses_group_with B (group_on n.s past) e past) (group_on n.s past) q)) (taken-as B n.s e (early_state B n.s past) n.event_is ∙ ap (λ r. after_clc r (early_state B n.s past)) n.reply_is) ∙ waits-stays (loses_group_with B (group_on n.s past) e past) (group_on n.s past)))
  new-holds A n = by-bool (is_out (end_state A n.s (e ∷ past)) ≡ false) (is_out (end_state A n.s (e ∷ past))) (λ o. absurd (true≢false (sym (new-ends setup payload e past m n.s n refl o) ∙ stands))) (λ o. o)
    where
      l : Lending
      l = lends_by n.s n.link (new_offer setup payload A n.first n.link past)

      fits : (n.link.group ≡ group_of A (e ∷ past)) × ((n.link.group == 0) ≡ false)
      fits = (let now = owed-now setup payload past w in new-fits setup payload past one.0 e one.1 st off now.own (all-psn setup payload past m.1 B) (all-grouped setup payload past m.1 w) A (lends_by n.s n.link (new_offer setup payload A n.first n.link past)) (subst (λ ls. IsAmong (lends_by n.s n.link (new_offer setup payload A n.first n.link past)) ls) (sym n.lends_one) (inl refl)))

      group : group_on n.s past ≡ n.link.group
      group = ap (λ c. unwrap_or (option_map (λ (k : LinkId). k.group) c) 0) (n.named_is refl)

      stands : loses_group_with A (group_on n.s past) e past ≡ false
      stands = not-lost (group_on n.s past == 0) (group_of A past == group_on n.s past) (group_of A (e ∷ past) == group_on n.s past) (eq-eqb (group_of A (e ∷ past)) (group_on n.s past) (sym (group ∙ fits.0)))

  holds-after : ((l : Lending) → IsAmong l (lent setup payload x past) → is_out (end_state x l.s past) ≡ false) → (l : Lending) → IsAmong l (lent setup payload x (e ∷ past)) → is_out (end_state x l.s (e ∷ past)) ≡ false
  holds-after was l i = by (begins setup payload past one.0 e one.1 st off x) (let c = changes setup payload past one.0 e one.1 st off x in c.was l i)
    where
      by : Begins setup payload x e past → IsAmong l (filter_map (lends x) e.posts) ⊎ (IsAmong l (lent setup payload x past) × (returns setup payload x e past l ≡ false)) → is_out (end_state x l.s (e ∷ past)) ≡ false
      by b (inr q) = old-holds l (lent-was setup payload x past l q.0) (was l q.0) q.1
      by (BeginsNone none os) (inl j) = absurd (subst (λ ls. IsAmong l ls) none j)
      by (BeginsOne n) (inl j) = ap (λ (k : Lending). is_out (end_state x k.s (e ∷ past))) (in-new setup payload past one.0 e one.1 st off x n l j) ∙ new-holds x n

  places-after : ((l k : Lending) → IsAmong l (lent setup payload x past) → IsAmong k (lent setup payload x past) → same_place l.place k.place ≡ true → l ≡ k) → (l k : Lending) → IsAmong l (lent setup payload x (e ∷ past)) → IsAmong k (lent setup payload x (e ∷ past)) → same_place l.place k.place ≡ true → l ≡ k
  places-after was l k i j same = (let c = changes setup payload past one.0 e one.1 st off x in by (c.was l i) (c.was k j))
    where
      both : Begins setup payload x e past → IsAmong l (filter_map (lends x) e.posts) → IsAmong k (filter_map (lends x) e.posts) → l ≡ k
      both (BeginsNone none os) p q = absurd (subst (λ ls. IsAmong l ls) none p)
      both (BeginsOne n) p q = in-new setup payload past one.0 e one.1 st off x n l p ∙ sym (in-new setup payload past one.0 e one.1 st off x n k q)

      by : IsAmong l (filter_map (lends x) e.posts) ⊎ (IsAmong l (lent setup payload x past) × (returns setup payload x e past l ≡ false)) → IsAmong k (filter_map (lends x) e.posts) ⊎ (IsAmong k (lent setup payload x past) × (returns setup payload x e past k ≡ false)) → l ≡ k
      by (inl p) (inl q) = both (begins setup payload past one.0 e one.1 st off x) p q
      by (inl p) (inr q) = (let f = fresh-place setup elements payload e past m w x l p in absurd (true≢false (sym same ∙ f.1 k q.0)))
      by (inr p) (inl q) = (let f = fresh-place setup elements payload e past m w x k q in absurd (true≢false (sym (same-turned l.place k.place same) ∙ f.1 l p.0)))
      by (inr p) (inr q) = was l k p.0 q.0 same

  range-after : ((l : Lending) → IsAmong l (lendings x past) → IsAmong l.place (all_places (rmbs_of setup x) (elements_of setup x))) → (l : Lending) → IsAmong l (lendings x (e ∷ past)) → IsAmong l.place (all_places (rmbs_of setup x) (elements_of setup x))
  range-after was l i = by (in-append l (filter_map (lends x) e.posts) (lendings x past) i)
    where
      by : IsAmong l (filter_map (lends x) e.posts) ⊎ IsAmong l (lendings x past) → IsAmong l.place (all_places (rmbs_of setup x) (elements_of setup x))
      by (inl j) = (let f = fresh-place setup elements payload e past m w x l j in f.0)
      by (inr j) = was l j

all-hold : (setup : Setup) → HasElements setup → (payload : List ℕ) (past : List Entry) → IsMadeAll setup payload past → OwedLendings setup payload past → (x : Side) (l : Lending) → IsAmong l (lent setup payload x past) → is_out (end_state x l.s past) ≡ false
all-hold setup el payload [] m w x l i = absurd i
all-hold setup el payload (e ∷ past) m w x l i = let rest = w.1 in holds-after setup el payload e past m rest.1 x (all-hold setup el payload past m.1 rest.1 x) l i

all-places : (setup : Setup) → HasElements setup → (payload : List ℕ) (past : List Entry) → IsMadeAll setup payload past → OwedLendings setup payload past → (x : Side) (l k : Lending) → IsAmong l (lent setup payload x past) → IsAmong k (lent setup payload x past) → same_place l.place k.place ≡ true → l ≡ k
all-places setup el payload [] m w x l k i j q = absurd i
all-places setup el payload (e ∷ past) m w x l k i j q = let rest = w.1 in places-after setup el payload e past m rest.1 x (all-places setup el payload past m.1 rest.1 x) l k i j q

all-range : (setup : Setup) → HasElements setup → (payload : List ℕ) (past : List Entry) → IsMadeAll setup payload past → OwedLendings setup payload past → (x : Side) (l : Lending) → IsAmong l (lendings x past) → IsAmong l.place (all_places (rmbs_of setup x) (elements_of setup x))
all-range setup el payload [] m w x l i = absurd i
all-range setup el payload (e ∷ past) m w x l i = let rest = w.1 in range-after setup el payload e past m rest.1 x (all-range setup el payload past m.1 rest.1 x) l i

-- places, groups and ends, after each history
pub are-apart : (setup : Setup) → HasElements setup → (payload : List ℕ) (past : List Entry) → IsMadeAll setup payload past → OwedLendings setup payload past → (x : Side) → AreApart setup payload x past
are-apart setup el payload past m w x = record {
  in_range = all-range setup el payload past m w x;
  group = all-groups setup payload past m w x;
  holds = λ l i. let are = all-lendings setup payload past m x in let q = are.of_offer l (lent-was setup payload x past l i) in let r = q.1 in let h = all-offers setup payload past m l.s in
      ap (λ b. not (b || is_out (end_state x l.s past))) (h.later x q.0 r.0) ∙ ap (λ b. not b) (all-hold setup el payload past m w x l i);
  places = all-places setup el payload past m w x;
}
