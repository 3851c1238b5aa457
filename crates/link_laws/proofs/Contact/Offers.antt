-- What is offered on sockets, and what an end that waits for the Proposal has before it, after each kind of entry.
use Rattle.std.proofs.Common.{Bool, List, Some, [], ap, arith, drop, eq-eqb, eqb-true, false, if◌then◌else◌, inl, inr, refl, subst, sym, true, true≢false, ℕ, ◌++◌, ◌+◌, ◌==◌, ◌∙◌, ◌∷◌, ◌≡◌, ◌≢◌, ◌≤◌, ◌⊎◌}
use Rattle.clc_wire.specs.declared.message.ClcMessage.TheVariants.{Accept as AcceptMessage, Confirm as ConfirmMessage, Decline as DeclineMessage, Proposal as ProposalMessage}
use Rattle.std.specs.Prelude.{Option, option_map, unwrap_or}
use Rattle.history_laws.specs.Words.{A, B, ClcMessage, Entry, Fabric, LinkId, NoEnd, Offer, Offered, Side, WaitsAnswer, WaitsConfirm, WaitsProposal, after_loss, begins_group, early_state, end_state, fabric, group_of, group_on, groups_begun, has_ended, head, is_opened, is_raw, link_at, loses_group_with, made_on, makes, named_link, no_link, offered, peer, table_of, untaken, with_peer}
use Rattle.history_laws.proofs.Basics.{none-is, some-is}
use Rattle.history_laws.specs.Offers.{is_own_state}
use Rattle.history_laws.proofs.Offers.{loss-own}
use Rattle.link_laws.specs.Contact.{AreCounted, AreLater, AreLaterIn, Contact, IsOfferedFirst, JoinedFirst, NoContact, OfferedFirst}
use Rattle.link_laws.specs.Offered.{AreNamed, AreOffered, IsFresh, HasProposal}
use Rattle.link_laws.specs.Linked.{AreLatest, AreLinked, Under}
use Rattle.link_laws.proofs.Contact.Changes.{Begins, IsJoining, IsKept, IsLaterOffer, IsMoved, IsPlain, IsSame, Joins, Kind, Moves, Plain, Readies}
use Rattle.link_laws.proofs.Contact.Counted.{begun-grows, ended-cases, named-begun}
use Rattle.link_laws.proofs.Sound.{put-link}
use Rattle.link_laws.proofs.Contact.Same.{is_waiting_state, loss-keeps, state-parts, waited, waits-on}

-- the message at the head of a stream that is later is not an Accept of first contact
pub not-first-accept : (past : List Entry) (ms : List ClcMessage) (m : Offer) → AreLaterIn past ms → head ms ≡ Some (AcceptMessage m) → m.first ≡ false
not-first-accept past [] m later e = absurd (none-is (AcceptMessage m) e)
not-first-accept past (c ∷ ms) m later e = let h : AreLaterIn past (AcceptMessage m ∷ ms) = subst (λ d. AreLaterIn past (d ∷ ms)) (some-is c (AcceptMessage m) e) later in h.0

pub not-first-confirm : (past : List Entry) (ms : List ClcMessage) (m : Offer) → AreLaterIn past ms → head ms ≡ Some (ConfirmMessage m) → (m.first ≡ false) ⊎ (has_ended B m.psn past ≡ true)
not-first-confirm past [] m later e = absurd (none-is (ConfirmMessage m) e)
not-first-confirm past (c ∷ ms) m later e = let h : AreLaterIn past (ConfirmMessage m ∷ ms) = subst (λ d. AreLaterIn past (d ∷ ms)) (some-is c (ConfirmMessage m) e) later in h.0

pub named-drop : (named : Option Offered) (ms : List ClcMessage) → AreNamed named ms → AreNamed named (drop 1 ms)
named-drop named [] a = tt
named-drop named (AcceptMessage o ∷ ms) a = a.1
named-drop named (ConfirmMessage o ∷ ms) a = a
named-drop named (ProposalMessage o ∷ ms) a = a
named-drop named (DeclineMessage o ∷ ms) a = a

-- an Accept of first contact can be taken in its row alone
pub offered-row : (past : List Entry) (under : Option Under) (s : ℕ) (m : Offer) → Contact past under → head (untaken B s past) ≡ Some (AcceptMessage m) → m.first ≡ true → (o : Offered) × (IsOfferedFirst s o past × ((t : ℕ) → (t == s) ≡ false → AreLater t past))
offered-row past under s m (NoContact later) h first = let l : AreLater s past = later s in absurd (true≢false (sym first ∙ not-first-accept past (untaken B s past) m l.from_b h))
offered-row past under s m (OfferedFirst t o row later) h first = by (s == t) refl
  where
    by : (b : Bool) → (s == t) ≡ b → (o : Offered) × (IsOfferedFirst s o past × ((t : ℕ) → (t == s) ≡ false → AreLater t past))
    by true e = (o, (subst (λ n. IsOfferedFirst n o past) (sym (eqb-true s t e)) row, λ r ne. later r (ap (λ n. r == n) (sym (eqb-true s t e)) ∙ ne)))
    by false e = let l : AreLater s past = later s e in absurd (true≢false (sym first ∙ not-first-accept past (untaken B s past) m l.from_b h))
offered-row past under s m (JoinedFirst t o p row later) h first = by (s == t) refl
  where
    by : (b : Bool) → (s == t) ≡ b → (o : Offered) × (IsOfferedFirst s o past × ((t : ℕ) → (t == s) ≡ false → AreLater t past))
    by true e = absurd (none-is (AcceptMessage m) (sym (ap head (ap (λ n. untaken B n past) (eqb-true s t e) ∙ row.untaken_b)) ∙ h))
    by false e = let l : AreLater s past = later s e in absurd (true≢false (sym first ∙ not-first-accept past (untaken B s past) m l.from_b h))

module _ (past : List Entry) (under : Option Under) (e : Entry) (linked : AreLinked (fabric past) under) (offers : AreOffered past) (counted : AreCounted past) (contact : Contact past under) where
  -- a new offer of first contact
  pub record IsFirstOffer (o : Offered) : Type 0 where
    pub first : o.offer.first ≡ true
    pub begun : o.link.group ≤ groups_begun (e ∷ past)
    pub psn : o.offer.psn ≡ o.link.group
    pub some : o.link.group ≢ 0

  -- an offer that stands after the entry stood before it, or is new
  pub offer-after : Kind past under e → (x : Side) (s : ℕ) (o : Offered) → offered x s (e ∷ past) ≡ Some o → (offered x s past ≡ Some o) ⊎ (IsLaterOffer x o past × IsPlain past under e) ⊎ IsFirstOffer o
  offer-after kind x s o h = by kind
    where
      Result : Type 0
      Result = (offered x s past ≡ Some o) ⊎ (IsLaterOffer x o past × IsPlain past under e) ⊎ IsFirstOffer o

      same : IsSame s past under e → Result
      same k = inl (sym (k.offers x) ∙ h)

      first-is : (p : Offered) → Some p ≡ Some o → IsFirstOffer p → Result
      first-is p e f = inr (inr (subst (λ q. IsFirstOffer q) (some-is p o e) f))

      by : Kind past under e → Result
      by (Plain plain_k) = let k : IsPlain past under e = plain_k in let at : IsSame s past under e ⊎ IsMoved s past under e = k.socket s in plain at
        where
          plain : IsSame s past under e ⊎ IsMoved s past under e → Result
          plain (inl k) = same k
          plain (inr k) = moved (k.offers x o h)
            where
              moved : (offered x s past ≡ Some o) ⊎ IsLaterOffer x o past → Result
              moved (inl k) = inl k
              moved (inr k) = inr (inl (k, plain_k))
      by (Begins t p k) = at (s == t) refl x h
        where
          kept : IsKept t past under e
          kept = k.kept

          is : (s == t) ≡ true → (x : Side) → offered x s (e ∷ past) ≡ Some o → (offered x s past ≡ Some o) ⊎ (IsLaterOffer x o past × IsPlain past under e) ⊎ IsFirstOffer o
          is q A h = inl (ap (λ n. offered A n past) (eqb-true s t q) ∙ sym k.offered_a ∙ ap (λ n. offered A n (e ∷ past)) (sym (eqb-true s t q)) ∙ h)
          is q B h = inr (inr (subst (λ q. IsFirstOffer q) (some-is p o (sym k.named ∙ ap (λ n. offered B n (e ∷ past)) (sym (eqb-true s t q)) ∙ h)) (record { first = k.first; begun = omega (arith, k.group, k.count); psn = k.psn; some = λ z. omega (arith, z, k.group) })))

          at : (b : Bool) → (s == t) ≡ b → (x : Side) → offered x s (e ∷ past) ≡ Some o → (offered x s past ≡ Some o) ⊎ (IsLaterOffer x o past × IsPlain past under e) ⊎ IsFirstOffer o
          at true q x h = is q x h
          at false q x h = let o : IsSame s past under e = kept.others s q in inl (sym (o.offers x) ∙ h)
      by (Joins t m p k) = at (s == t) refl x h
        where
          kept : IsKept t past under e
          kept = k.kept

          begun : p.link.group ≤ groups_begun (e ∷ past)
          begun = subst (λ (l : LinkId). l.group ≤ groups_begun (e ∷ past)) (sym k.link) (subst (λ n. (unwrap_or (named_link t past) no_link).group ≤ n) (sym k.count) (named-begun past t offers))

          some : p.link.group ≢ 0
          some z = let row = offered-row past under t m contact k.accept k.accept_first in let it : IsOfferedFirst t row.0 past = row.1.0 in it.some (ap (λ (l : LinkId). l.group) (sym (k.link ∙ ap (λ (q : Option Offered). unwrap_or (option_map (λ (o : Offered). o.link) q) no_link) it.named)) ∙ z)

          is : (s == t) ≡ true → (x : Side) → offered x s (e ∷ past) ≡ Some o → (offered x s past ≡ Some o) ⊎ (IsLaterOffer x o past × IsPlain past under e) ⊎ IsFirstOffer o
          is q B h = inl (ap (λ n. offered B n past) (eqb-true s t q) ∙ sym k.offered_b ∙ ap (λ n. offered B n (e ∷ past)) (sym (eqb-true s t q)) ∙ h)
          is q A h = inr (inr (subst (λ q. IsFirstOffer q) (some-is p o (sym k.answered ∙ ap (λ n. offered A n (e ∷ past)) (sym (eqb-true s t q)) ∙ h)) (record { first = k.first; begun = begun; psn = k.psn; some = some })))

          at : (b : Bool) → (s == t) ≡ b → (x : Side) → offered x s (e ∷ past) ≡ Some o → (offered x s past ≡ Some o) ⊎ (IsLaterOffer x o past × IsPlain past under e) ⊎ IsFirstOffer o
          at true q x h = is q x h
          at false q x h = let o : IsSame s past under e = kept.others s q in inl (sym (o.offers x) ∙ h)
      by (Readies t m k) = at (s == t) refl
        where
          kept : IsKept t past under e
          kept = k.kept

          at : (b : Bool) → (s == t) ≡ b → Result
          at true q = inl (ap (λ n. offered x n past) (eqb-true s t q) ∙ sym (k.offers x) ∙ ap (λ n. offered x n (e ∷ past)) (sym (eqb-true s t q)) ∙ h)
          at false q = same (kept.others s q)

  put-made : (k : ℕ) (link : LinkId) (f : Fabric) → made_on link.slot f ≤ link.incarnation → made_on k f ≤ made_on k (makes link f)
  put-made k link f le = subst (λ (o : Option LinkId). made_on k f ≤ (unwrap_or o no_link).incarnation) (sym (put-link k _ f.latest)) (by (link.slot == k) refl)
    where
      by : (b : Bool) → (link.slot == k) ≡ b → made_on k f ≤ (unwrap_or (if b then Some link else link_at k f.latest) no_link).incarnation
      by true q = subst (λ n. made_on n f ≤ link.incarnation) (eqb-true link.slot k q) le
      by false q = omega arith

  -- the link that A joins on is the next of its slot
  pub joined-next : (s : ℕ) (m : Offer) (p : Offered) → IsJoining s m p past under e → (o : Offered) → IsOfferedFirst s o past → p.link ≡ o.link
  joined-next s m p k o row = k.link ∙ ap (λ (q : Option Offered). unwrap_or (option_map (λ (o : Offered). o.link) q) no_link) row.named

  -- links made do not become fewer
  pub made-grows : Kind past under e → (k : ℕ) → made_on k (fabric past) ≤ made_on k (fabric (e ∷ past))
  made-grows (Plain k) j = let m : Moves past under e = k.moves in m.made j
  made-grows (Begins s o k) j = subst (λ f. made_on j (fabric past) ≤ made_on j f) (sym k.changed) (omega arith)
  made-grows (Joins s m p k) j =
      let row = offered-row past under s m contact k.accept k.accept_first in
      let it : IsOfferedFirst s row.0 past = row.1.0 in
      let l : p.link ≡ Offered.link row.0 = joined-next s m p k row.0 it in
      subst (λ f. made_on j (fabric past) ≤ made_on j f) (sym k.changed) (put-made j p.link (with_peer A (begins_group p.link.group) (fabric past)) (subst (λ (n : LinkId). made_on n.slot (fabric past) ≤ n.incarnation) (sym l) (omega (arith, it.next))))
  made-grows (Readies s m k) j = subst (λ f. made_on j (fabric past) ≤ made_on j f) (sym k.changed) (omega arith)

  pub known-made : (l : LinkId) → link_at l.slot (table_of B past) ≡ Some l → made_on l.slot (fabric past) ≡ l.incarnation
  known-made l h = let lat : AreLatest (peer B (fabric past)) (Fabric.latest (fabric past)) = linked.latest B in ap (λ (o : Option LinkId). (unwrap_or o no_link).incarnation) (lat.known l.slot l h)

  pub ne-head : {X : Type 0} (xs : List X) (x : X) → head xs ≡ Some x → xs ≡ [] → ⊥
  ne-head xs x h e = none-is x (sym (ap head e) ∙ h)

  -- offers and groups after the entry
  pub offers-after : Kind past under e → AreOffered (e ∷ past)
  offers-after kind = record {
    begun = λ x s o h. begun x s o (offer-after kind x s o h);
    some = λ s o h. some s o (offer-after kind B s o h);
    psn = λ x s o h. psn x s o (offer-after kind x s o h);
    made = λ s o h first. made s o first (offer-after kind B s o h);
    stands = stands kind;
    ended = λ x g h. ended x g (ended-cases past e x g h);
    proposed = proposed kind;
    plain = plain kind;
    fresh = fresh kind;
    sided = sided kind;
    accepted = accepted kind;
    lone = lone kind;
  }
    where
      grows : groups_begun past ≤ groups_begun (e ∷ past)
      grows = begun-grows past under e offers counted kind

      begun : (x : Side) (s : ℕ) (o : Offered) → (offered x s past ≡ Some o) ⊎ (IsLaterOffer x o past × IsPlain past under e) ⊎ IsFirstOffer o → o.link.group ≤ groups_begun (e ∷ past)
      begun x s o (inl h) = omega (arith, offers.begun x s o h, grows)
      begun x s o (inr (inl h)) = (let l : IsLaterOffer x o past = h.0 in omega (arith, l.begun, grows))
      begun x s o (inr (inr h)) = h.begun

      some : (s : ℕ) (o : Offered) → (offered B s past ≡ Some o) ⊎ (IsLaterOffer B o past × IsPlain past under e) ⊎ IsFirstOffer o → o.link.group ≢ 0
      some s o (inl h) = offers.some s o h
      some s o (inr (inl h)) = let l : IsLaterOffer B o past = h.0 in l.some refl
      some s o (inr (inr h)) = h.some

      psn : (x : Side) (s : ℕ) (o : Offered) → (offered x s past ≡ Some o) ⊎ (IsLaterOffer x o past × IsPlain past under e) ⊎ IsFirstOffer o → o.offer.psn ≡ o.link.group
      psn x s o (inl h) = offers.psn x s o h
      psn x s o (inr (inl h)) = let l : IsLaterOffer x o past = h.0 in l.psn
      psn x s o (inr (inr h)) = h.psn

      made : (s : ℕ) (o : Offered) → o.offer.first ≡ false → (offered B s past ≡ Some o) ⊎ (IsLaterOffer B o past × IsPlain past under e) ⊎ IsFirstOffer o → o.link.incarnation ≤ made_on o.link.slot (fabric (e ∷ past))
      made s o first (inl h) = omega (arith, offers.made s o h first, made-grows kind o.link.slot)
      made s o first (inr (inl h)) = (let l : IsLaterOffer B o past = h.0 in omega (arith, known-made o.link (l.known refl), made-grows kind o.link.slot))
      made s o first (inr (inr h)) = absurd (true≢false (sym h.first ∙ first))

      -- the group of a side has not ended, where it had not before
      now-stands : (x : Side) → has_ended x (group_of x (e ∷ past)) past ≡ false → has_ended x (group_of x (e ∷ past)) (e ∷ past) ≡ false
      now-stands x was = by (has_ended x (group_of x (e ∷ past)) (e ∷ past)) refl
        where
          cases : ((group_of x past ≡ group_of x (e ∷ past)) × ((group_of x (e ∷ past) == group_of x (e ∷ past)) ≡ false)) ⊎ (has_ended x (group_of x (e ∷ past)) past ≡ true) → ⊥
          cases (inl g) = true≢false (sym (eq-eqb (group_of x (e ∷ past)) (group_of x (e ∷ past)) refl) ∙ g.1)
          cases (inr g) = true≢false (sym g ∙ was)

          by : (b : Bool) → has_ended x (group_of x (e ∷ past)) (e ∷ past) ≡ b → b ≡ false
          by false h = refl
          by true h = absurd (cases (ended-cases past e x (group_of x (e ∷ past)) h))

      stands-same : (x : Side) → group_of x (e ∷ past) ≡ group_of x past → group_of x (e ∷ past) ≢ 0 → has_ended x (group_of x (e ∷ past)) (e ∷ past) ≡ false
      stands-same x g ne = now-stands x (ap (λ n. has_ended x n past) g ∙ offers.stands x (λ z. ne (g ∙ z)))

      new-stands : (g : ℕ) → g ≡ groups_begun past + 1 → has_ended B g past ≡ false
      new-stands g is = by (has_ended B g past) refl
        where
          by : (b : Bool) → has_ended B g past ≡ b → b ≡ false
          by false h = refl
          by true h = absurd (omega (arith, offers.ended B g h, is))

      stands : Kind past under e → (x : Side) → group_of x (e ∷ past) ≢ 0 → has_ended x (group_of x (e ∷ past)) (e ∷ past) ≡ false
      stands (Plain k) x ne = let m : Moves past under e = k.moves in by (m.group x)
        where
          by : (group_of x (e ∷ past) ≡ group_of x past) ⊎ (group_of x (e ∷ past) ≡ 0) → has_ended x (group_of x (e ∷ past)) (e ∷ past) ≡ false
          by (inl g) = stands-same x g ne
          by (inr g) = absurd (ne g)
      stands (Begins s o k) A ne = stands-same A (ap (λ (f : Fabric). f.a.group) k.changed) ne
      stands (Begins s o k) B ne = now-stands B (new-stands (group_of B (e ∷ past)) (ap (λ (f : Fabric). f.b.group) k.changed ∙ k.group))
      stands (Joins s m p k) A ne =
          let row = offered-row past under s m contact k.accept k.accept_first in
          let it : IsOfferedFirst s row.0 past = row.1.0 in
          now-stands A (ap (λ n. has_ended A n past) (ap (λ (f : Fabric). f.a.group) k.changed ∙ ap (λ (l : LinkId). l.group) (joined-next s m p k row.0 it)) ∙ it.not_ended)
      stands (Joins s m p k) B ne = stands-same B (ap (λ (f : Fabric). f.b.group) k.changed) ne
      stands (Readies s m k) x ne = stands-same x (ap (λ (f : Fabric). (peer x f).group) k.changed) ne

      ended : (x : Side) (g : ℕ) → ((group_of x past ≡ g) × ((group_of x (e ∷ past) == g) ≡ false)) ⊎ (has_ended x g past ≡ true) → g ≤ groups_begun (e ∷ past)
      ended x g (inl h) = omega (arith, h.0, counted.at_most x, grows)
      ended x g (inr h) = omega (arith, offers.ended x g h, grows)

      same-proposed : (s : ℕ) → IsSame s past under e → is_raw s (e ∷ past) ≡ false → end_state B s (e ∷ past) ≡ WaitsProposal → HasProposal s (e ∷ past)
      same-proposed s k raw w =
          let was : HasProposal s past = offers.proposed s (sym k.raw ∙ raw) (waited B s e past WaitsProposal refl (k.early B) w) in
          record {
            proposal = was.proposal;
            untaken_a = k.stream A ∙ was.untaken_a;
            untaken_b = k.stream B ∙ was.untaken_b;
            waits_a = waits-on A s e past WaitsAnswer refl (k.early A) (k.up A (inl (was.none B))) was.waits_a;
            none = λ x. k.offers x ∙ was.none x;
          }

      state-is : (s : ℕ) → early_state B s (e ∷ past) ≢ WaitsProposal → end_state B s (e ∷ past) ≡ WaitsProposal → ⊥
      state-is s ne w = ne (let h = waits-parts s w in h)
        where
          waits-parts : (s : ℕ) → end_state B s (e ∷ past) ≡ WaitsProposal → early_state B s (e ∷ past) ≡ WaitsProposal
          waits-parts s w = let h = state-parts B s (e ∷ past) WaitsProposal refl w in h.1

      proposed : Kind past under e → (s : ℕ) → is_raw s (e ∷ past) ≡ false → end_state B s (e ∷ past) ≡ WaitsProposal → HasProposal s (e ∷ past)
      proposed (Plain k) s raw w = by (k.socket s)
        where
          by : IsSame s past under e ⊎ IsMoved s past under e → HasProposal s (e ∷ past)
          by (inl k) = same-proposed s k raw w
          by (inr k) = k.proposed raw w
      proposed (Begins t o k) s raw w = by (s == t) refl
        where
          kept : IsKept t past under e
          kept = k.kept

          confirm : WaitsConfirm ≡ WaitsProposal → ⊥
          confirm e = cc

          by : (b : Bool) → (s == t) ≡ b → HasProposal s (e ∷ past)
          by true q = absurd (state-is s (λ z. confirm (sym k.early_b ∙ ap (λ n. early_state B n (e ∷ past)) (sym (eqb-true s t q)) ∙ z)) w)
          by false q = same-proposed s (kept.others s q) raw w
      proposed (Joins t m p k) s raw w = by (s == t) refl
        where
          kept : IsKept t past under e
          kept = k.kept

          by : (b : Bool) → (s == t) ≡ b → HasProposal s (e ∷ past)
          by true q =
              let was : HasProposal t past = offers.proposed t kept.not_raw (waited B t e past WaitsProposal refl k.early_b (subst (λ n. end_state B n (e ∷ past) ≡ WaitsProposal) (eqb-true s t q) w)) in
              absurd (ne-head (untaken B t past) (AcceptMessage m) k.accept was.untaken_b)
          by false q = same-proposed s (kept.others s q) raw w
      proposed (Readies t m k) s raw w = by (s == t) refl
        where
          kept : IsKept t past under e
          kept = k.kept

          by : (b : Bool) → (s == t) ≡ b → HasProposal s (e ∷ past)
          by true q = absurd (state-is s (λ z. k.early_b (ap (λ n. early_state B n (e ∷ past)) (sym (eqb-true s t q)) ∙ z)) w)
          by false q = same-proposed s (kept.others s q) raw w

      -- the one socket that a kind is about, or another
      about : (s t : ℕ) → IsKept t past under e → is_opened s (e ∷ past) ≡ is_opened s past × is_raw s (e ∷ past) ≡ is_raw s past
      about s t kept = by (s == t) refl
        where
          by : (b : Bool) → (s == t) ≡ b → is_opened s (e ∷ past) ≡ is_opened s past × is_raw s (e ∷ past) ≡ is_raw s past
          by true q = subst (λ n. is_opened n (e ∷ past) ≡ is_opened n past × is_raw n (e ∷ past) ≡ is_raw n past) (sym (eqb-true s t q)) (kept.opened, kept.raw)
          by false q = let o : IsSame s past under e = kept.others s q in (o.opened, o.raw)

      plain-by : (s : ℕ) → is_opened s (e ∷ past) ≡ is_opened s past → is_raw s (e ∷ past) ≡ is_raw s past → is_opened s (e ∷ past) ≡ true → is_raw s (e ∷ past) ≡ false
      plain-by s o r h = r ∙ offers.plain s (sym o ∙ h)

      plain : Kind past under e → (s : ℕ) → is_opened s (e ∷ past) ≡ true → is_raw s (e ∷ past) ≡ false
      plain (Plain k) s h = by (k.socket s)
        where
          by : IsSame s past under e ⊎ IsMoved s past under e → is_raw s (e ∷ past) ≡ false
          by (inl k) = plain-by s k.opened k.raw h
          by (inr k) = k.plain h
      plain (Begins t o k) s h = let a = about s t k.kept in plain-by s a.0 a.1 h
      plain (Joins t m p k) s h = let a = about s t k.kept in plain-by s a.0 a.1 h
      plain (Readies t m k) s h = let a = about s t k.kept in plain-by s a.0 a.1 h

      same-fresh : (s : ℕ) → IsSame s past under e → is_opened s (e ∷ past) ≡ false → is_raw s (e ∷ past) ≡ false → IsFresh s (e ∷ past)
      same-fresh s k o r =
          let was : IsFresh s past = offers.fresh s (sym k.opened ∙ o) (sym k.raw ∙ r) in
          record {
            untaken = λ x. k.stream x ∙ was.untaken x;
            none = λ x. k.offers x ∙ was.none x;
            early = λ x. k.early x ∙ loss-keeps (loses_group_with x (group_on s past) e past) (group_on s past) (early_state x s past) (ap is_waiting_state (was.early x)) ∙ was.early x;
            up = λ x. k.up x (inl (was.none B)) ∙ was.up x;
          }

      -- of the socket that a kind is about, and that was opened
      fresh-by : (s t : ℕ) → IsKept t past under e → (IsFresh t past → ⊥) → is_opened s (e ∷ past) ≡ false → is_raw s (e ∷ past) ≡ false → IsFresh s (e ∷ past)
      fresh-by s t kept ne o r = by (s == t) refl
        where
          by : (b : Bool) → (s == t) ≡ b → IsFresh s (e ∷ past)
          by true q = absurd (ne (offers.fresh t (sym kept.opened ∙ subst (λ n. is_opened n (e ∷ past) ≡ false) (eqb-true s t q) o) kept.not_raw))
          by false q = same-fresh s (kept.others s q) o r

      fresh : Kind past under e → (s : ℕ) → is_opened s (e ∷ past) ≡ false → is_raw s (e ∷ past) ≡ false → IsFresh s (e ∷ past)
      fresh (Plain k) s o r = by (k.socket s)
        where
          by : IsSame s past under e ⊎ IsMoved s past under e → IsFresh s (e ∷ past)
          by (inl k) = same-fresh s k o r
          by (inr k) = absurd (k.known o r)
      fresh (Begins t p k) s o r = fresh-by s t k.kept (λ f. waits (let h = state-parts B t past WaitsProposal refl k.waits in sym (f.early B) ∙ h.1)) o r
        where
          waits : NoEnd ≡ WaitsProposal → ⊥
          waits e = cc
      fresh (Joins t m p k) s o r = fresh-by s t k.kept (λ f. ne-head (untaken B t past) (AcceptMessage m) k.accept (f.untaken B)) o r
      fresh (Readies t m k) s o r = fresh-by s t k.kept (λ f. ne-head (untaken A t past) (ConfirmMessage m) k.confirm (f.untaken A)) o r

      sided-by : (x : Side) (s : ℕ) → early_state x s (e ∷ past) ≡ after_loss (loses_group_with x (group_on s past) e past) (group_on s past) (early_state x s past) → is_own_state x (early_state x s (e ∷ past)) ≡ true
      sided-by x s early = ap (is_own_state x) early ∙ loss-own x (loses_group_with x (group_on s past) e past) (group_on s past) (early_state x s past) (offers.sided x s)

      sided-kept : (x : Side) (s t : ℕ) → IsKept t past under e → is_own_state x (early_state x t (e ∷ past)) ≡ true → is_own_state x (early_state x s (e ∷ past)) ≡ true
      sided-kept x s t kept own = by (s == t) refl
        where
          by : (b : Bool) → (s == t) ≡ b → is_own_state x (early_state x s (e ∷ past)) ≡ true
          by true q = subst (λ n. is_own_state x (early_state x n (e ∷ past)) ≡ true) (sym (eqb-true s t q)) own
          by false q = let o : IsSame s past under e = kept.others s q in sided-by x s (o.early x)

      sided : Kind past under e → (x : Side) (s : ℕ) → is_own_state x (early_state x s (e ∷ past)) ≡ true
      sided (Plain k) x s = by (k.socket s)
        where
          by : IsSame s past under e ⊎ IsMoved s past under e → is_own_state x (early_state x s (e ∷ past)) ≡ true
          by (inl k) = sided-by x s (k.early x)
          by (inr k) = k.sided x
      sided (Begins t p k) A s = sided-kept A s t k.kept (sided-by A t k.early_a)
      sided (Begins t p k) B s = sided-kept B s t k.kept (ap (is_own_state B) k.early_b)
      sided (Joins t m p k) A s = sided-kept A s t k.kept k.own_a
      sided (Joins t m p k) B s = sided-kept B s t k.kept (sided-by B t k.early_b)
      sided (Readies t m k) A s = sided-kept A s t k.kept (sided-by A t k.early_a)
      sided (Readies t m k) B s = sided-kept B s t k.kept k.own_b

      same-lone : (s : ℕ) → IsSame s past under e → is_raw s (e ∷ past) ≡ true → early_state A s (e ∷ past) ≡ NoEnd
      same-lone s k r = k.early A ∙ ap (λ st. after_loss (loses_group_with A (group_on s past) e past) (group_on s past) st) (offers.lone s (sym k.raw ∙ r)) ∙ loss-keeps (loses_group_with A (group_on s past) e past) (group_on s past) NoEnd refl

      lone-kept : (s t : ℕ) → IsKept t past under e → is_raw s (e ∷ past) ≡ true → early_state A s (e ∷ past) ≡ NoEnd
      lone-kept s t kept r = by (s == t) refl
        where
          by : (b : Bool) → (s == t) ≡ b → early_state A s (e ∷ past) ≡ NoEnd
          by true q = absurd (true≢false (sym r ∙ ap (λ n. is_raw n (e ∷ past)) (eqb-true s t q) ∙ kept.raw ∙ kept.not_raw))
          by false q = same-lone s (kept.others s q) r

      lone : Kind past under e → (s : ℕ) → is_raw s (e ∷ past) ≡ true → early_state A s (e ∷ past) ≡ NoEnd
      lone (Plain k) s r = by (k.socket s)
        where
          by : IsSame s past under e ⊎ IsMoved s past under e → early_state A s (e ∷ past) ≡ NoEnd
          by (inl k) = same-lone s k r
          by (inr k) = k.lone r
      lone (Begins t p k) s r = lone-kept s t k.kept r
      lone (Joins t m p k) s r = lone-kept s t k.kept r
      lone (Readies t m k) s r = lone-kept s t k.kept r

      same-accepted : (s : ℕ) → IsSame s past under e → is_raw s (e ∷ past) ≡ false → AreNamed (offered B s (e ∷ past)) (untaken B s (e ∷ past))
      same-accepted s k r = subst (λ o. AreNamed o (untaken B s (e ∷ past))) (sym (k.offers B)) (subst (λ ms. AreNamed (offered B s past) ms) (sym (k.stream B)) (offers.accepted s (sym k.raw ∙ r)))

      accepted-kept : (s t : ℕ) → IsKept t past under e → AreNamed (offered B t (e ∷ past)) (untaken B t (e ∷ past)) → is_raw s (e ∷ past) ≡ false → AreNamed (offered B s (e ∷ past)) (untaken B s (e ∷ past))
      accepted-kept s t kept a r = by (s == t) refl
        where
          by : (b : Bool) → (s == t) ≡ b → AreNamed (offered B s (e ∷ past)) (untaken B s (e ∷ past))
          by true q = subst (λ n. AreNamed (offered B n (e ∷ past)) (untaken B n (e ∷ past))) (sym (eqb-true s t q)) a
          by false q = same-accepted s (kept.others s q) r

      accepted : Kind past under e → (s : ℕ) → is_raw s (e ∷ past) ≡ false → AreNamed (offered B s (e ∷ past)) (untaken B s (e ∷ past))
      accepted (Plain k) s r = by (k.socket s)
        where
          by : IsSame s past under e ⊎ IsMoved s past under e → AreNamed (offered B s (e ∷ past)) (untaken B s (e ∷ past))
          by (inl k) = same-accepted s k r
          by (inr k) = k.accepted r
      accepted (Begins t p k) s r =
          let kept : IsKept t past under e = k.kept in
          let was : HasProposal t past = offers.proposed t kept.not_raw k.waits in
          accepted-kept s t kept (subst (λ o. AreNamed o (untaken B t (e ∷ past))) (sym k.named) (subst (λ ms. AreNamed (Some p) ms) (sym (k.untaken_b ∙ ap (λ ms. ms ++ AcceptMessage p.offer ∷ []) was.untaken_b)) ((p, (refl, refl)), tt))) r
      accepted (Joins t m p k) s r =
          let kept : IsKept t past under e = k.kept in
          accepted-kept s t kept (subst (λ o. AreNamed o (untaken B t (e ∷ past))) (sym k.offered_b) (subst (λ ms. AreNamed (offered B t past) ms) (sym k.untaken_b) (named-drop (offered B t past) (untaken B t past) (offers.accepted t kept.not_raw)))) r
      accepted (Readies t m k) s r =
          let kept : IsKept t past under e = k.kept in
          accepted-kept s t kept (subst (λ o. AreNamed o (untaken B t (e ∷ past))) (sym (k.offers B)) (subst (λ ms. AreNamed (offered B t past) ms) (sym k.untaken_b) (offers.accepted t kept.not_raw))) r
