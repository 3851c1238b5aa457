-- What a table shows after each call, with its phases and links in arrays of which the first places are in use.
use Rattle.std.proofs.Common.{◌≡◌, ◌∙◌, ℕ, zero, suc, ◌+◌, ◌-◌, ◌<◌, ◌≤◌, true, false, List, [], ◌∷◌, length, map, get_or, set, take, replicate, Some, None, option_map, ◌&&◌, ◌⊎◌, inl, inr, refl, sym, ap, subst, arith}
use Rattle.std.specs.Prelude.{if◌then◌else◌}
use Rattle.std.specs.List.{range_with_len}
use Rattle.std.proofs.lemmas.List.{length-take-le, get_or-take}
use Rattle.smc_num.specs.declared.LinkId.{LinkId}
use Rattle.smc_num.specs.declared.LinkPhase.{LinkPhase}
use Rattle.smc_num.specs.declared.LinkPhase.TheVariants.{Unused, Pending, Live, Dead}
use Rattle.smc_num.specs.Names.{has_link, same_link, no_link, up_to}
use Rattle.smc_num.specs.Links.{same_phase, is_live, live_links, is_standing, phase_at, link_at, put, set_phase, first_live}
use Rattle.failover.specs.Choices.{lowest_from}
use Rattle.failover.specs.Tables.{known_in, AreInOrder}
use Rattle.failover.proofs.LiveLinks.{live_in, none_live}
use Rattle.failover.proofs.KnownLinks.{phase_in, link_in, phase_set, link_put, order_set, lowest_in, phases_in}

-- a write below the end of a front is a write in the front
take-set_in : {X : Type 0} (n : ℕ) (xs : List X) (i : ℕ) (y : X) → i < n → take n (set xs i y) ≡ set (take n xs) i y
take-set_in zero xs i y lt = absurd (omega (arith, lt))
take-set_in (suc n) [] i y lt = refl
take-set_in (suc n) (x ∷ xs) zero y lt = refl
take-set_in (suc n) (x ∷ xs) (suc i) y lt = ap (λ zs. x ∷ zs) (take-set_in n xs i y (omega (arith, lt)))

map-set : {X Y : Type 0} (f : X → Y) (xs : List X) (i : ℕ) (y : X) → map f (set xs i y) ≡ set (map f xs) i (f y)
map-set f [] i y = refl
map-set f (x ∷ xs) zero y = refl
map-set f (x ∷ xs) (suc i) y = ap (λ zs. f x ∷ zs) (map-set f xs i y)

-- a link that stands is on a used slot
pub standing_used : (p : LinkPhase) → is_standing p ≡ true → same_phase p Unused ≡ false
standing_used Unused e = cc
standing_used Pending e = refl
standing_used Live e = refl
standing_used Dead e = cc

-- a phase that is not unused is another
pub other_used : (p : LinkPhase) → (p ≡ Unused → ⊥) → same_phase p Unused ≡ false
other_used Unused other = absurd (other refl)
other_used Pending other = refl
other_used Live other = refl
other_used Dead other = refl

-- arrays of eight places, of which the first n are in use
pub record IsShown (n : ℕ) (ps : List LinkPhase) (ls : List LinkId) : Type 0 where
  pub slots : n ≤ 8
  pub phases : length ps ≡ 8
  pub links : length ls ≡ 8
  pub order : AreInOrder 1 (take n ls)

module _ (n : ℕ) (ps : List LinkPhase) (ls : List LinkId) (shown : IsShown n ps ls) where
  as_long : length (take n ps) ≡ length (take n ls)
  as_long =
      let s = shown.slots in let p = shown.phases in let l = shown.links in
      length-take-le n ps (omega (arith, s, p)) ∙ sym (length-take-le n ls (omega (arith, s, l)))

  -- a used slot gets another phase
  pub phase_changed : (slot : ℕ) (q : LinkPhase) → 1 ≤ slot → slot ≤ n → same_phase (phase_at slot (known_in (take n ps) (take n ls))) Unused ≡ false → same_phase q Unused ≡ false
      → known_in (take n (set ps (slot - 1) q)) (take n ls) ≡ set_phase slot q (known_in (take n ps) (take n ls))
  phase_changed slot q low high used stays =
      let i = slot - 1 in
      let here : 1 + (slot - 1) ≡ slot = omega (arith, low) in
      let was : same_phase (get_or (take n ps) (slot - 1) Unused) Unused ≡ false =
      ap (λ p. same_phase p Unused) (sym (phase_in 1 (slot - 1) (take n ps) (take n ls) as_long shown.order) ∙ ap (λ k. phase_at k (known_in (take n ps) (take n ls))) here) ∙ used in
      ap (λ qs. known_in qs (take n ls)) (take-set_in n ps (slot - 1) q (omega (arith, low, high)))
      ∙ (phase_set 1 (slot - 1) q (take n ps) (take n ls) as_long shown.order was stays ∙ ap (λ k. set_phase k q (known_in (take n ps) (take n ls))) here)

  -- a link is made
  pub link_made : (link : LinkId) → 1 ≤ link.slot → link.slot ≤ n
      → known_in (take n (set ps (link.slot - 1) Pending)) (take n (set ls (link.slot - 1) link)) ≡ put (record { link = link; phase = Pending }) (known_in (take n ps) (take n ls))
  link_made link low high =
      let s = shown.slots in let p = shown.phases in
      ap (λ qs. known_in qs (take n (set ls (link.slot - 1) link))) (take-set_in n ps (link.slot - 1) Pending (omega (arith, low, high)))
      ∙ (ap (λ ks. known_in (set (take n ps) (link.slot - 1) Pending) ks) (take-set_in n ls (link.slot - 1) link (omega (arith, low, high)))
      ∙ link_put 1 (link.slot - 1) Pending link (take n ps) (take n ls) as_long shown.order (omega (arith, low)) (let long = length-take-le n ps (omega (arith, s, p)) in omega (arith, long, low, high)) refl)

  pub count_made : (link : LinkId) → 1 ≤ link.slot → link.slot ≤ n
      → map (λ (l : LinkId). l.incarnation) (take n (set ls (link.slot - 1) link)) ≡ set (map (λ (l : LinkId). l.incarnation) (take n ls)) (link.slot - 1) link.incarnation
  count_made link low high =
      ap (λ ks. map (λ (l : LinkId). l.incarnation) ks) (take-set_in n ls (link.slot - 1) link (omega (arith, low, high)))
      ∙ map-set (λ (l : LinkId). l.incarnation) (take n ls) (link.slot - 1) link

  pub order_made : (link : LinkId) → 1 ≤ link.slot → link.slot ≤ n → AreInOrder 1 (take n (set ls (link.slot - 1) link))
  order_made link low high =
      subst (λ ks. AreInOrder 1 ks) (sym (take-set_in n ls (link.slot - 1) link (omega (arith, low, high))))
      (order_set 1 (link.slot - 1) link (take n ls) shown.order (omega (arith, low)))

  -- the phases, and the lowest live slot among them
  pub phases_shown : take n ps ≡ map (λ k. phase_at k (known_in (take n ps) (take n ls))) (up_to n)
  phases_shown =
      let s = shown.slots in let p = shown.phases in
      phases_in 1 (take n ps) (take n ls) as_long shown.order
      ∙ ap (λ k. map (λ j. phase_at j (known_in (take n ps) (take n ls))) (range_with_len 1 k)) (length-take-le n ps (omega (arith, s, p)))

  pub lowest_shown : lowest_from 1 (take n ps) ≡ option_map (λ (link : LinkId). link.slot) (first_live (known_in (take n ps) (take n ls)))
  lowest_shown = lowest_in 1 (take n ps) (take n ls) as_long shown.order

  -- whether that very link is live
  pub live_shown : (link : LinkId) → 1 ≤ link.slot → link.slot ≤ n
      → has_link link (live_links (known_in (take n ps) (take n ls))) ≡ (is_live (get_or ps (link.slot - 1) Unused) && same_link link (get_or ls (link.slot - 1) no_link))
  live_shown link low high =
      let s = shown.slots in let p = shown.phases in
      live_in link 1 (link.slot - 1) (take n ps) (take n ls) as_long shown.order (omega (arith, low)) (let long = length-take-le n ps (omega (arith, s, p)) in omega (arith, long, low, high))
      ∙ (ap (λ q. is_live q && same_link link (get_or (take n ls) (link.slot - 1) no_link)) (get_or-take n ps (link.slot - 1) Unused (omega (arith, low, high)))
      ∙ ap (λ l. is_live (get_or ps (link.slot - 1) Unused) && same_link link l) (get_or-take n ls (link.slot - 1) no_link (omega (arith, low, high))))

  pub none_shown : (link : LinkId) → (link.slot < 1) ⊎ (n < link.slot) → has_link link (live_links (known_in (take n ps) (take n ls))) ≡ false
  none_shown link out =
      let s = shown.slots in let l = shown.links in
      let long = length-take-le n ls (omega (arith, s, l)) in
      none_live link 1 (take n ps) (take n ls) (λ k low high e. elim out [ inl below ↦ omega (arith, below, low, e) | inr above ↦ omega (arith, above, high, long, e) ]) shown.order

  -- the link of a slot
  pub link_shown : (slot : ℕ) → 1 ≤ slot → slot ≤ n
      → link_at slot (known_in (take n ps) (take n ls)) ≡ (if same_phase (get_or ps (slot - 1) Unused) Unused then None else Some (get_or ls (slot - 1) no_link))
  link_shown slot low high =
      let s = shown.slots in let p = shown.phases in
      let here : slot ≡ 1 + (slot - 1) = omega (arith, low) in
      ap (λ k. link_at k (known_in (take n ps) (take n ls))) here
      ∙ (link_in 1 (slot - 1) (take n ps) (take n ls) as_long shown.order (let long = length-take-le n ps (omega (arith, s, p)) in omega (arith, long, low, high))
      ∙ (ap (λ q. if same_phase q Unused then None else Some (get_or (take n ls) (slot - 1) no_link)) (get_or-take n ps (slot - 1) Unused (omega (arith, low, high)))
      ∙ ap (λ l. if same_phase (get_or ps (slot - 1) Unused) Unused then None else Some l) (get_or-take n ls (slot - 1) no_link (omega (arith, low, high)))))

-- nothing is known of slots that are all unused
pub none_known : (m n : ℕ) (ls : List LinkId) → known_in (take n (replicate m Unused)) ls ≡ []
none_known zero zero ls = refl
none_known zero (suc n) ls = refl
none_known (suc m) zero ls = refl
none_known (suc m) (suc n) [] = refl
none_known (suc m) (suc n) (l ∷ ls) = none_known m n ls

-- the first links are in order where all are
pub order-take : (b n : ℕ) (ls : List LinkId) → AreInOrder b ls → AreInOrder b (take n ls)
order-take b zero ls order = tt
order-take b (suc n) [] order = tt
order-take b (suc n) (l ∷ ls) order = (order.0, order-take (b + 1) n ls order.1)

-- links that were never made
abbrev pub AreUnmade : List LinkId → Type 0
AreUnmade [] = Unit {0}
AreUnmade (l ∷ ls) = (l.incarnation ≡ 0) × AreUnmade ls

pub none_made : (n : ℕ) (ls : List LinkId) → AreUnmade ls → n ≤ length ls → map (λ (l : LinkId). l.incarnation) (take n ls) ≡ replicate n 0
none_made zero ls unmade le = refl
none_made (suc n) [] unmade le = absurd (omega (arith, le))
none_made (suc n) (l ∷ ls) unmade le = ap (λ k. k ∷ map (λ (j : LinkId). j.incarnation) (take n ls)) unmade.0 ∙ ap (λ ks. 0 ∷ ks) (none_made n ls unmade.1 (omega (arith, le)))
