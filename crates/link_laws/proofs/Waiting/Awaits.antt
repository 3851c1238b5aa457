-- In first contact an end waits for its link: after every history made by the definitions; so the end that comes up with a first link was waiting for it.
use Rattle.std.proofs.Common.{Bool, List, [], ap, arith, eq-eqb, eqb-true, false, if◌then◌else◌, inl, inr, not, refl, subst, sym, true, true≢false, ℕ, ◌&&◌, ◌++◌, ◌+◌, ◌==◌, ◌||◌, ◌∙◌, ◌∷◌, ◌≡◌, ◌≢◌, ◌⊎◌}
use Rattle.std.specs.Prelude.{None, Option, Some, is_some, option_and_then}
use Rattle.pipe_model.specs.Connections.{comes_up}
use Rattle.pipe_model.specs.declared.reply.Reply.TheVariants.{Idle}
use Rattle.pipe_model.specs.declared.event.Event.TheVariants.{Clc as ClcEvent}
use Rattle.pipe_model.specs.Fabric.{does}
use Rattle.pipe_model.specs.declared.flow.FlowStep.TheVariants.{Live}
use Rattle.clc_wire.specs.declared.message.ClcMessage.TheVariants.{Accept as AcceptMessage, Confirm as ConfirmMessage}
use Rattle.history_laws.specs.Words.{A, Act, B, Entry, Established, Fabric, FlowStep, IsUp, LinkId, Offer, Offered, Peer, Setup, Side, WaitsConfirm, WaitsLink, act_in, after_clc, after_event, after_loss, confirmed_by, early_state, end_state, expects, fabric, flow_of, group_of, group_on, groups_begun, has_ended, head, is_first_contact, is_up, loses_group_with, offered, other, peer, untaken}
use Rattle.history_laws.specs.Made.{IsMadeAll}
use Rattle.history_laws.proofs.Offers.{Answers, ByVerdict, Does, DoesBegin, DoesNothing, DoesTake, ForFault, NotTaken, answers, does as does-state, states}
use Rattle.history_laws.specs.Offers.{HasStates, is_none}
use Rattle.history_laws.proofs.Basics.{none-is, some-is}
use Rattle.link_laws.specs.Linked.{AreLinked, Under}
use Rattle.link_laws.specs.Contact.{AreCounted, AreLater, AreLaterIn, Contact, IsJoinedFirst, IsOfferedFirst, JoinedFirst, NoContact, OfferedFirst}
use Rattle.link_laws.specs.Awaited.{AreAwaited, first_up}
use Rattle.link_laws.proofs.Fabric.{fabric-taken}
use Rattle.link_laws.proofs.Waiting.ComingUp.{by-kind}
use Rattle.link_laws.specs.Joined.{IsContacted}
use Rattle.link_laws.proofs.Contact.{Begins, IsBeginning, IsKept, IsLaterOffer, IsMoved, IsSame, Joins, Kind, Moves, Plain, Readies, joined-next, offered-row, state-parts}
use Rattle.link_laws.specs.Offered.{AreOffered, HasProposal}

-- a socket whose streams hold something of first contact is in a row of it
pub in-row : (past : List Entry) (under : Option Under) (s : ℕ) → Contact past under → (AreLater s past → ⊥) → ((o : Offered) × IsOfferedFirst s o past) ⊎ ((o : Offered) × ((p : Offered) × IsJoinedFirst s o p past under))
in-row past under s (NoContact later) n = absurd (n (later s))
in-row past under s (OfferedFirst t o row later) n = by (s == t) refl
  where
    by : (b : Bool) → (s == t) ≡ b → ((o : Offered) × IsOfferedFirst s o past) ⊎ ((o : Offered) × ((p : Offered) × IsJoinedFirst s o p past under))
    by true q = inl (o, subst (λ r. IsOfferedFirst r o past) (sym (eqb-true s t q)) row)
    by false q = absurd (n (later s q))
in-row past under s (JoinedFirst t o p row later) n = by (s == t) refl
  where
    by : (b : Bool) → (s == t) ≡ b → ((o : Offered) × IsOfferedFirst s o past) ⊎ ((o : Offered) × ((p : Offered) × IsJoinedFirst s o p past under))
    by true q = inr (o, (p, subst (λ r. IsJoinedFirst r o p past under) (sym (eqb-true s t q)) row))
    by false q = absurd (n (later s q))

-- a side that stays in its group loses none
pub not-lost : (x : Side) (g : ℕ) (e : Entry) (past : List Entry) → group_of x (e ∷ past) ≡ group_of x past → loses_group_with x g e past ≡ false
not-lost x g e past h = ap (λ n. not (g == 0) && ((group_of x past == g) && not (n == g))) h ∙ by (g == 0) (group_of x past == g)
  where
    by : (a b : Bool) → (not a && (b && not b)) ≡ false
    by true b = refl
    by false true = refl
    by false false = refl

-- an end that waits for its link is not up
link-parts : (x : Side) (s : ℕ) (past : List Entry) → end_state x s past ≡ WaitsLink → (is_up x s past ≡ false) × (early_state x s past ≡ WaitsLink)
link-parts x s past w = by (is_up x s past) refl w
  where
    by : (b : Bool) → is_up x s past ≡ b → (if b then IsUp else early_state x s past) ≡ WaitsLink → (b ≡ false) × (early_state x s past ≡ WaitsLink)
    by true u w = absurd (let z : IsUp ≡ WaitsLink = w in cc)
    by false u w = (refl, w)

link-from : (x : Side) (s : ℕ) (past : List Entry) → is_up x s past ≡ false → early_state x s past ≡ WaitsLink → end_state x s past ≡ WaitsLink
link-from x s past u w = ap (λ b. if b then IsUp else early_state x s past) u ∙ w

module _ (setup : Setup) (payload : List ℕ) (e : Entry) (past : List Entry) (m : IsMadeAll setup payload (e ∷ past)) where
  -- an end that waits for its link waits on, while its side stays in first contact and in its group
  pub link-waits : (x : Side) (s : ℕ) → is_first_contact (flow_of x (e ∷ past)).link ≡ true → group_of x (e ∷ past) ≡ group_of x past → end_state x s past ≡ WaitsLink → end_state x s (e ∷ past) ≡ WaitsLink
  link-waits x s first same w = link-from x s (e ∷ past) (ap (λ o. is_some o || is_up x s past) (none (comes_up x s e past) refl) ∙ was.0) (ap (λ b. after_loss b (group_on s past) (after_event x s e.event e.reply (early_state x s past))) (not-lost x (group_on s past) e past same) ∙ goes (does-state setup payload past m.0.0 e m.0.1 s (st.begun x (ap is_none was.1)) x (early_state x s past)))
    where
      was : (is_up x s past ≡ false) × (early_state x s past ≡ WaitsLink)
      was = link-parts x s past w

      st : HasStates s past
      st = states setup payload past m.1 s

      not-asked : (y : Side) → end_state y s past ≡ WaitsLink → Answers setup payload s (other y) past e.reply → e.reply ≡ Idle
      not-asked y w (NotTaken i) = i
      not-asked A w (ForFault fault ex f i) = absurd (true≢false (sym ex ∙ ap expects w))
      not-asked B w (ForFault fault ex f i) = absurd (true≢false (sym ex ∙ ap expects w))
      not-asked A w (ByVerdict n len ex f i) = absurd (true≢false (sym ex ∙ ap expects w))
      not-asked B w (ByVerdict n len ex f i) = absurd (true≢false (sym ex ∙ ap expects w))

      idle : e.event ≡ ClcEvent s (other x) → e.reply ≡ Idle
      idle ev = not-asked x w (answers setup payload past m.0.0 e m.0.1 s (other x) ev)

      goes : Does x s e (early_state x s past) (after_event x s e.event e.reply (early_state x s past)) → after_event x s e.event e.reply (early_state x s past) ≡ WaitsLink
      goes (DoesNothing h) = h ∙ was.1
      goes (DoesTake ev h) = h ∙ ap (λ r. after_clc r (early_state x s past)) (idle ev) ∙ was.1
      goes (DoesBegin n i h) = absurd (true≢false (sym n ∙ ap is_none was.1))

      over : (z : Side) (act : Act) (reply : Bool) → is_first_contact (peer z (does z act.link act.message (Live reply true) (fabric past))).flow.link ≡ false
      over A act reply = refl
      over B act reply = refl

      not-first : (link : LinkId) → first_up x s e past ≡ Some link → ⊥
      not-first link u = by (act_in x e past) refl u
        where
          by : (o : Option Act) → act_in x e past ≡ o → option_and_then (λ act. confirmed_by (offered B s past) act.link act.step) o ≡ Some link → ⊥
          by None i c = none-is link c
          by (Some act) i c = step act.step refl c
            where
              step : (v : FlowStep) → act.step ≡ v → confirmed_by (offered B s past) act.link v ≡ Some link → ⊥
              step (Live reply true) d k = true≢false (sym first ∙ ap (λ (f : Fabric). is_first_contact (peer x f).flow.link) (fabric-taken x e past act i ∙ ap (λ v. does x act.link act.message v (fabric past)) d) ∙ over x act reply)
              step v d k = none-is link k

      none : (o : Option LinkId) → comes_up x s e past ≡ o → comes_up x s e past ≡ None
      none None i = i
      none (Some link) i = absurd (by-kind setup payload e past m s ⊥ x link i (λ ev r n. (let z : Idle ≡ Established = sym (idle ev) ∙ r in cc)) (λ f. not-first link f))

module _ (setup : Setup) (payload : List ℕ) (e : Entry) (past : List Entry) (m : IsMadeAll setup payload (e ∷ past)) (under : Option Under) (linked : AreLinked (fabric past) under) (all : IsContacted past under) (wait : AreAwaited past under) (kind : Kind past under e) (after : Option Under) (now : IsContacted (e ∷ past) after) where
  offers : AreOffered past
  offers = all.offers

  counted : AreCounted past
  counted = all.counted

  offers_now : AreOffered (e ∷ past)
  offers_now = now.offers

  -- an offer of first contact was made before, or begins its group
  old-offer : (s : ℕ) (o : Offered) → offered B s (e ∷ past) ≡ Some o → o.offer.first ≡ true → IsSame s past under e ⊎ IsMoved s past under e → offered B s past ≡ Some o
  old-offer s o i f (inl k) = sym (k.offers B) ∙ i
  old-offer s o i f (inr k) = by (k.offers B o i)
    where
      by : (offered B s past ≡ Some o) ⊎ IsLaterOffer B o past → offered B s past ≡ Some o
      by (inl h) = h
      by (inr l) = absurd (true≢false (sym f ∙ l.first))

  beside : (s t : ℕ) (o : Offered) → offered B s (e ∷ past) ≡ Some o → (offered B t (e ∷ past) ≡ offered B t past) → ((r : ℕ) → (r == t) ≡ false → IsSame r past under e) → offered B s past ≡ Some o
  beside s t o i same others = by (s == t) refl
    where
      by : (b : Bool) → (s == t) ≡ b → offered B s past ≡ Some o
      by true q = ap (λ n. offered B n past) (eqb-true s t q) ∙ (sym same ∙ (ap (λ n. offered B n (e ∷ past)) (sym (eqb-true s t q)) ∙ i))
      by false q = let k : IsSame s past under e = others s q in sym (k.offers B) ∙ i

  offer-from : (s : ℕ) (o : Offered) → offered B s (e ∷ past) ≡ Some o → o.offer.first ≡ true → (offered B s past ≡ Some o) ⊎ IsBeginning s o past under e
  offer-from s o i f = by kind
    where
      by : Kind past under e → (offered B s past ≡ Some o) ⊎ IsBeginning s o past under e
      by (Plain k) = inl (old-offer s o i f (k.socket s))
      by (Joins t n p k) = let kept : IsKept t past under e = k.kept in inl (beside s t o i k.offered_b kept.others)
      by (Readies t n k) = let kept : IsKept t past under e = k.kept in inl (beside s t o i (k.offers B) kept.others)
      by (Begins t q k) = at (s == t) refl
        where
          at : (b : Bool) → (s == t) ≡ b → (offered B s past ≡ Some o) ⊎ IsBeginning s o past under e
          at true r = inr (subst (λ n. IsBeginning n o past under e) (sym (eqb-true s t r)) (subst (λ p. IsBeginning t p past under e) (some-is q o (sym k.named ∙ (ap (λ n. offered B n (e ∷ past)) (sym (eqb-true s t r)) ∙ i))) k))
          at false r = let kept : IsKept t past under e = k.kept in let h : IsSame s past under e = kept.others s r in inl (sym (h.offers B) ∙ i)

  -- no two offers of first contact are of one group
  old-new : (s t : ℕ) (o q : Offered) → offered B s past ≡ Some o → IsBeginning t q past under e → o.link.group ≡ q.link.group → ⊥
  old-new s t o q h k same = let le = offers.begun B s o h in (let new : q.link.group ≡ groups_begun past + 1 = k.group in omega (arith, le, new, same))

  lone-after : (s t : ℕ) (o q : Offered) → offered B s (e ∷ past) ≡ Some o → offered B t (e ∷ past) ≡ Some q → o.offer.first ≡ true → q.offer.first ≡ true → o.link.group ≡ q.link.group → s ≡ t
  lone-after s t o q i j f g same = by (offer-from s o i f) (offer-from t q j g)
    where
      by : (offered B s past ≡ Some o) ⊎ IsBeginning s o past under e → (offered B t past ≡ Some q) ⊎ IsBeginning t q past under e → s ≡ t
      by (inl h) (inl k) = wait.lone s t o q h k f g same
      by (inl h) (inr k) = absurd (old-new s t o q h k same)
      by (inr h) (inl k) = absurd (old-new t s q o k h (sym same))
      by (inr h) (inr k) = at (t == s) refl
        where
          at : (b : Bool) → (t == s) ≡ b → s ≡ t
          at true r = sym (eqb-true t s r)
          at false r = let kept : IsKept s past under e = h.kept in let u : IsSame t past under e = kept.others t r in absurd (old-new t s q o (sym (u.offers B) ∙ j) h (sym same))

  -- where a side is as it was
  fabric-same : (x : Side) → peer x (fabric (e ∷ past)) ≡ peer x (fabric past) → is_first_contact (flow_of x (e ∷ past)).link ≡ true → (is_first_contact (flow_of x past).link ≡ true) × (group_of x (e ∷ past) ≡ group_of x past)
  fabric-same x h f = (ap (λ (p : Peer). is_first_contact p.flow.link) (sym h) ∙ f, ap (λ (p : Peer). p.group) h)

  at-a-stays : (s : ℕ) (o : Offered) → offered B s past ≡ Some o → o.offer.first ≡ true → is_first_contact (flow_of A (e ∷ past)).link ≡ true → group_of A (e ∷ past) ≡ o.link.group → (is_first_contact (flow_of A past).link ≡ true) × (group_of A (e ∷ past) ≡ group_of A past) → end_state A s (e ∷ past) ≡ WaitsLink
  at-a-stays s o h f first g was = link-waits setup payload e past m A s first was.1 (wait.at_a s o h f was.0 (sym was.1 ∙ g))

  at-a-after : (s : ℕ) (o : Offered) → offered B s (e ∷ past) ≡ Some o → o.offer.first ≡ true → is_first_contact (flow_of A (e ∷ past)).link ≡ true → group_of A (e ∷ past) ≡ o.link.group → end_state A s (e ∷ past) ≡ WaitsLink
  at-a-after s o i f first g = from (offer-from s o i f)
    where
      old : offered B s past ≡ Some o → Kind past under e → end_state A s (e ∷ past) ≡ WaitsLink
      old h (Plain k) = let mv : Moves past under e = k.moves in at-a-stays s o h f first g (mv.first A first)
      old h (Begins t q k) = at-a-stays s o h f first g (fabric-same A (ap (peer A) k.changed) first)
      old h (Readies t n k) = at-a-stays s o h f first g (fabric-same A (ap (peer A) k.changed) first)
      old h (Joins t n p k) = at found.0 found.1.0
        where
          found : (q : Offered) × (IsOfferedFirst t q past × ((r : ℕ) → (r == t) ≡ false → AreLater r past))
          found = offered-row past under t n all.contact k.accept k.accept_first

          at : (q : Offered) → IsOfferedFirst t q past → end_state A s (e ∷ past) ≡ WaitsLink
          at q row = subst (λ r. end_state A r (e ∷ past) ≡ WaitsLink) (sym same) here
            where
              link : p.link ≡ q.link
              link = joined-next past under e linked offers counted all.contact t n p k q row

              kept : IsKept t past under e
              kept = k.kept

              same : s ≡ t
              same = wait.lone s t o q h row.named f row.first (sym g ∙ (ap (λ (f : Fabric). f.a.group) k.changed ∙ ap (λ (l : LinkId). l.group) link))

              up : is_up A t past ≡ false
              up = let w = state-parts A t past _ refl row.waits_a in w.0

              not-there : loses_group_with A (group_on t past) e past ≡ false
              not-there = none (group_on t past == 0) (group_of A past == group_on t past) refl refl
                where
                  none : (a b : Bool) → (group_on t past == 0) ≡ a → (group_of A past == group_on t past) ≡ b → (not a && (b && not (group_of A (e ∷ past) == group_on t past))) ≡ false
                  none true b x y = refl
                  none false false x y = refl
                  none false true x y = absurd (true≢false (sym (eq-eqb (group_on t past) 0 (sym (eqb-true (group_of A past) (group_on t past) y) ∙ k.without)) ∙ x))

              here : end_state A t (e ∷ past) ≡ WaitsLink
              here = link-from A t (e ∷ past) (kept.up A ∙ up) (k.linked_a ∙ ap (λ b. after_loss b (group_on t past) WaitsLink) not-there)

      from : (offered B s past ≡ Some o) ⊎ IsBeginning s o past under e → end_state A s (e ∷ past) ≡ WaitsLink
      from (inl h) = old h kind
      from (inr k) = absurd (let le = counted.at_most A in (let new : o.link.group ≡ groups_begun past + 1 = k.group in (let was : group_of A (e ∷ past) ≡ group_of A past = ap (λ (f : Fabric). f.a.group) k.changed in omega (arith, le, new, was, g))))

  -- the socket of an offer is in a row, where its streams hold something of first contact
  abbrev Row : List Entry → Option Under → ℕ → Offered → Type 0
  Row past under s o = IsOfferedFirst s o past ⊎ ((p : Offered) × IsJoinedFirst s o p past under)

  row-now : (s : ℕ) (o : Offered) → offered B s (e ∷ past) ≡ Some o → (AreLater s (e ∷ past) → ⊥) → Row (e ∷ past) after s o
  row-now s o i n = by (in-row (e ∷ past) after s now.contact n)
    where
      offered-by : (q : Offered) → IsOfferedFirst s q (e ∷ past) → Row (e ∷ past) after s o
      offered-by q row = inl (subst (λ r. IsOfferedFirst s r (e ∷ past)) (some-is q o (sym row.named ∙ i)) row)

      joined-by : (q p : Offered) → IsJoinedFirst s q p (e ∷ past) after → Row (e ∷ past) after s o
      joined-by q p row = inr (p, subst (λ r. IsJoinedFirst s r p (e ∷ past) after) (some-is q o (sym row.named ∙ i)) row)

      by : ((q : Offered) × IsOfferedFirst s q (e ∷ past)) ⊎ ((q : Offered) × ((p : Offered) × IsJoinedFirst s q p (e ∷ past) after)) → Row (e ∷ past) after s o
      by (inl r) = offered-by r.0 r.1
      by (inr r) = joined-by r.0 r.1.0 r.1.1

  accept-now : (s : ℕ) (o : Offer) → o.first ≡ true → untaken B s (e ∷ past) ≡ AcceptMessage o ∷ [] → AreLater s (e ∷ past) → ⊥
  accept-now s o f st l = let h = subst (λ ms. AreLaterIn (e ∷ past) ms) st l.from_b in true≢false (sym f ∙ h.0)

  confirm-now : (s : ℕ) (p : Offered) (o : Offered) → offered A s (e ∷ past) ≡ Some p → p.link ≡ o.link → p.offer.first ≡ true → group_of B (e ∷ past) ≡ o.link.group → o.link.group ≢ 0 → untaken A s (e ∷ past) ≡ ConfirmMessage p.offer ∷ [] → AreLater s (e ∷ past) → ⊥
  confirm-now s p o named link f g some st l = let h = subst (λ ms. AreLaterIn (e ∷ past) ms) st l.from_a in by h.0
    where
      by : (p.offer.first ≡ false) ⊎ (has_ended B p.offer.psn (e ∷ past) ≡ true) → ⊥
      by (inl h) = true≢false (sym f ∙ h)
      by (inr h) = true≢false (sym h ∙ (ap (λ n. has_ended B n (e ∷ past)) (offers_now.psn A s p named ∙ (ap (λ (l : LinkId). l.group) link ∙ sym g)) ∙ offers_now.stands B (λ z. some (sym g ∙ z))))

  -- B's side, where the offer was made before
  abbrev AtB : ℕ → Offered → Type 0
  AtB s o = (end_state B s (e ∷ past) ≡ WaitsLink) ⊎ Row (e ∷ past) after s o

  module _ (s : ℕ) (o : Offered) (i : offered B s (e ∷ past) ≡ Some o) (h : offered B s past ≡ Some o) (f : o.offer.first ≡ true) (first : is_first_contact (flow_of B (e ∷ past)).link ≡ true) (g : group_of B (e ∷ past) ≡ o.link.group) where
    some : o.link.group ≢ 0
    some = offers.some s o h

    -- nothing happens on the socket
    row-same : IsSame s past under e → Row past under s o → Row (e ∷ past) after s o
    row-same k (inl row) = row-now s o i (accept-now s o.offer f (k.stream B ∙ row.untaken_b))
    row-same k (inr r) = by r.0 r.1
      where
        by : (p : Offered) → IsJoinedFirst s o p past under → Row (e ∷ past) after s o
        by p row = row-now s o i (confirm-now s p o (k.offers A ∙ row.answered) row.link row.first g some (k.stream A ∙ row.untaken_a))

    -- or something not of first contact
    row-moved : IsMoved s past under e → Row past under s o → Row (e ∷ past) after s o
    row-moved k (inl row) = absurd (k.not_offered o row)
    row-moved k (inr r) = absurd (k.not_joined o r.0 r.1)

    row-plain : IsSame s past under e ⊎ IsMoved s past under e → Row past under s o → Row (e ∷ past) after s o
    row-plain (inl k) r = row-same k r
    row-plain (inr k) r = row-moved k r

    goes-on : (is_first_contact (flow_of B past).link ≡ true) × (group_of B (e ∷ past) ≡ group_of B past) → (Row past under s o → AtB s o) → AtB s o
    goes-on was rows = by (wait.at_b s o h f was.0 (sym was.1 ∙ g))
      where
        by : (end_state B s past ≡ WaitsLink) ⊎ Row past under s o → AtB s o
        by (inl w) = inl (link-waits setup payload e past m B s first was.1 w)
        by (inr r) = rows r

    -- on another socket than that of the entry, or on it
    either : (t : ℕ) → ((r : ℕ) → (r == t) ≡ false → IsSame r past under e) → (s ≡ t → Row past under s o → AtB s o) → Row past under s o → AtB s o
    either t others here r = by (s == t) refl
      where
        by : (b : Bool) → (s == t) ≡ b → AtB s o
        by true q = here (eqb-true s t q) r
        by false q = inr (row-same (others s q) r)

    old-b : Kind past under e → AtB s o
    old-b (Plain k) = let mv : Moves past under e = k.moves in goes-on (mv.first B first) (λ r. inr (row-plain (k.socket s) r))
    old-b (Begins t q k) = absurd (old-new s t o q h k (sym g ∙ ap (λ (f : Fabric). f.b.group) k.changed))
    old-b (Joins t n p k) = goes-on (ap (λ (f : Fabric). is_first_contact f.b.flow.link) (sym k.changed) ∙ first, ap (λ (f : Fabric). f.b.group) k.changed) (either t (IsKept.others k.kept) here)
      where
        here : s ≡ t → Row past under s o → AtB s o
        here q (inr r) = absurd (by r.0 r.1)
          where
            by : (p : Offered) → IsJoinedFirst s o p past under → ⊥
            by p row = none-is (AcceptMessage n) (sym (ap head row.untaken_b) ∙ (ap (λ r. head (untaken B r past)) q ∙ k.accept))
        here q (inl row) = inr (row-now s o i (confirm-now s p o (ap (λ r. offered A r (e ∷ past)) q ∙ k.answered) link k.first g some stream))
          where
            there : IsOfferedFirst t o past
            there = subst (λ r. IsOfferedFirst r o past) q row

            link : p.link ≡ o.link
            link = joined-next past under e linked offers counted all.contact t n p k o there

            stream : untaken A s (e ∷ past) ≡ ConfirmMessage p.offer ∷ []
            stream = ap (λ r. untaken A r (e ∷ past)) q ∙ (k.untaken_a ∙ ap (λ ms. ms ++ ConfirmMessage p.offer ∷ []) there.untaken_a)
    old-b (Readies t n k) = goes-on (fabric-same B (ap (peer B) k.changed) first) (either t (IsKept.others k.kept) here)
      where
        here : s ≡ t → Row past under s o → AtB s o
        here q (inl row) = absurd (none-is (ConfirmMessage n) (sym (ap head row.untaken_a) ∙ (ap (λ r. head (untaken A r past)) q ∙ k.confirm)))
        here q (inr r) = by r.0 r.1
          where
            by : (p : Offered) → IsJoinedFirst s o p past under → AtB s o
            by p row = inl (subst (λ r. end_state B r (e ∷ past) ≡ WaitsLink) (sym q) (link-from B t (e ∷ past) (kept.up B ∙ up.0) (k.linked_b ∙ ap (λ b. after_loss b (group_on t past) WaitsLink) (not-lost B (group_on t past) e past (ap (λ (f : Fabric). f.b.group) k.changed)))))
              where
                kept : IsKept t past under e
                kept = k.kept

                up : (is_up B t past ≡ false) × (early_state B t past ≡ WaitsConfirm)
                up = state-parts B t past _ refl (ap (λ r. end_state B r past) (sym q) ∙ row.waits_b)

  at-b-after : (s : ℕ) (o : Offered) → offered B s (e ∷ past) ≡ Some o → o.offer.first ≡ true → is_first_contact (flow_of B (e ∷ past)).link ≡ true → group_of B (e ∷ past) ≡ o.link.group → AtB s o
  at-b-after s o i f first g = from (offer-from s o i f)
    where
      from : (offered B s past ≡ Some o) ⊎ IsBeginning s o past under e → AtB s o
      from (inl h) = old-b s o i h f first g kind
      from (inr k) = inr (row-now s o i (accept-now s o.offer f (k.untaken_b ∙ ap (λ ms. ms ++ AcceptMessage o.offer ∷ []) proposed.untaken_b)))
        where
          kept : IsKept s past under e
          kept = k.kept

          proposed : HasProposal s past
          proposed = offers.proposed s kept.not_raw k.waits

  -- the step
  pub awaited-after : AreAwaited (e ∷ past) after
  awaited-after = record { lone = lone-after; at_a = at-a-after; at_b = at-b-after }

-- before anything has happened
pub awaited-first : (under : Option Under) → AreAwaited [] under
awaited-first under = record { lone = λ s t o q i j f g e. absurd (none-is o i); at_a = λ s o i f c g. absurd (none-is o i); at_b = λ s o i f c g. absurd (none-is o i) }
