-- What is known of the links when one is made, confirmed, reported, or all are forgotten.
use Rattle.std.proofs.Common.{◌≡◌, ◌∙◌, ℕ, zero, suc, ◌+◌, ◌<◌, ◌≤◌, nat_lt, Bool, true, false, cond, List, [], ◌∷◌, length, map, get_or, set, Some, None, option_map, unwrap_or, refl, sym, ap, arith}
use Rattle.std.specs.Prelude.{if◌then◌else◌}
use Rattle.std.specs.List.{range_with_len}
use Rattle.std.proofs.lemmas.Bool.{eq-eqb, ne_eqb}
use Rattle.std.proofs.lemmas.Bool.Decides.{nat_tests}
use Rattle.smc_num.specs.declared.LinkId.{LinkId}
use Rattle.smc_num.specs.declared.LinkPhase.{LinkPhase}
use Rattle.smc_num.specs.declared.LinkPhase.TheVariants.{Unused, Pending, Live, Dead}
use Rattle.smc_num.specs.Names.{no_link}
use Rattle.smc_num.specs.Links.{Known, same_phase, at_slot, phase_at, link_at, put, set_phase, first_live}
use Rattle.failover.specs.Choices.{lowest_from}
use Rattle.failover.specs.Tables.{known_in, AreInOrder}

-- a phase that is the same as unused is unused
is_unused : (p : LinkPhase) → same_phase p Unused ≡ true → p ≡ Unused
is_unused Unused e = refl
is_unused Pending e = cc
is_unused Live e = cc
is_unused Dead e = cc

lt_true : (a b : ℕ) → a < b → nat_lt a b ≡ true
lt_true a b lt = grind (arith, nat_tests)

lt_false : (a b : ℕ) → b ≤ a → nat_lt a b ≡ false
lt_false a b le = grind (arith, nat_tests)

-- what is known of links whose slots begin at b has no slot below b
pub none_below : (b k : ℕ) (ps : List LinkPhase) (ls : List LinkId) → k < b → AreInOrder b ls → at_slot k (known_in ps ls) ≡ None
none_below b k [] ls low order = refl
none_below b k (p ∷ ps) [] low order = refl
none_below b k (p ∷ ps) (l ∷ ls) low order = by_test (same_phase p Unused) (none_below (b + 1) k ps ls (omega (arith, low)) order.1)
  where
    by_test : (t : Bool) → at_slot k (known_in ps ls) ≡ None → at_slot k (if t then known_in ps ls else record { link = l; phase = p } ∷ known_in ps ls) ≡ None
    by_test true rest = rest
    by_test false rest = let slot = order.0 in ap (λ t. cond t (Some (record { link = l; phase = p })) (at_slot k (known_in ps ls))) (ne_eqb l.slot k (λ e. omega (arith, e, slot, low))) ∙ rest

-- nor one behind the last of them
pub none_above : (b k : ℕ) (ps : List LinkPhase) (ls : List LinkId) → b + length ls ≤ k → AreInOrder b ls → at_slot k (known_in ps ls) ≡ None
none_above b k [] ls high order = refl
none_above b k (p ∷ ps) [] high order = refl
none_above b k (p ∷ ps) (l ∷ ls) high order = by_test (same_phase p Unused) (none_above (b + 1) k ps ls (omega (arith, high)) order.1)
  where
    by_test : (t : Bool) → at_slot k (known_in ps ls) ≡ None → at_slot k (if t then known_in ps ls else record { link = l; phase = p } ∷ known_in ps ls) ≡ None
    by_test true rest = rest
    by_test false rest = let slot = order.0 in ap (λ t. cond t (Some (record { link = l; phase = p })) (at_slot k (known_in ps ls))) (ne_eqb l.slot k (λ e. omega (arith, e, slot, high))) ∙ rest

-- the phase of a slot is that of its place
pub phase_in : (b i : ℕ) (ps : List LinkPhase) (ls : List LinkId) → length ps ≡ length ls → AreInOrder b ls → phase_at (b + i) (known_in ps ls) ≡ get_or ps i Unused
phase_in b i [] [] same order = refl
phase_in b i [] (l ∷ ls) same order = refl
phase_in b i (p ∷ ps) [] same order = absurd (omega (arith, same))
phase_in b zero (p ∷ ps) (l ∷ ls) same order = by_test (same_phase p Unused) refl
  where
    by_test : (t : Bool) → same_phase p Unused ≡ t → phase_at (b + 0) (if t then known_in ps ls else record { link = l; phase = p } ∷ known_in ps ls) ≡ p
    by_test true e = ap (λ o. unwrap_or (option_map (λ (k : Known). k.phase) o) Unused) (none_below (b + 1) (b + 0) ps ls (omega arith) order.1) ∙ sym (is_unused p e)
    by_test false e = let slot = order.0 in ap (λ t. unwrap_or (option_map (λ (k : Known). k.phase) (cond t (Some (record { link = l; phase = p })) (at_slot (b + 0) (known_in ps ls)))) Unused) (eq-eqb l.slot (b + 0) (omega (arith, slot)))
phase_in b (suc i) (p ∷ ps) (l ∷ ls) same order =
    by_test (same_phase p Unused) (ap (λ k. phase_at k (known_in ps ls)) (let e : b + suc i ≡ b + 1 + i = omega arith in e) ∙ phase_in (b + 1) i ps ls (omega (arith, same)) order.1)
  where
    by_test : (t : Bool) → phase_at (b + suc i) (known_in ps ls) ≡ get_or ps i Unused → phase_at (b + suc i) (if t then known_in ps ls else record { link = l; phase = p } ∷ known_in ps ls) ≡ get_or ps i Unused
    by_test true rest = rest
    by_test false rest = let slot = order.0 in ap (λ t. unwrap_or (option_map (λ (k : Known). k.phase) (cond t (Some (record { link = l; phase = p })) (at_slot (b + suc i) (known_in ps ls)))) Unused) (ne_eqb l.slot (b + suc i) (λ e. omega (arith, e, slot))) ∙ rest

-- and its link, where the slot is used
pub link_in : (b i : ℕ) (ps : List LinkPhase) (ls : List LinkId) → length ps ≡ length ls → AreInOrder b ls → i < length ps
    → link_at (b + i) (known_in ps ls) ≡ (if same_phase (get_or ps i Unused) Unused then None else Some (get_or ls i no_link))
link_in b i [] ls same order in_range = absurd (omega (arith, in_range))
link_in b i (p ∷ ps) [] same order in_range = absurd (omega (arith, same))
link_in b zero (p ∷ ps) (l ∷ ls) same order in_range = by_test (same_phase p Unused)
  where
    by_test : (t : Bool) → link_at (b + 0) (if t then known_in ps ls else record { link = l; phase = p } ∷ known_in ps ls) ≡ (if t then None else Some l)
    by_test true = ap (λ o. option_map (λ (k : Known). k.link) o) (none_below (b + 1) (b + 0) ps ls (omega arith) order.1)
    by_test false = let slot = order.0 in ap (λ t. option_map (λ (k : Known). k.link) (cond t (Some (record { link = l; phase = p })) (at_slot (b + 0) (known_in ps ls)))) (eq-eqb l.slot (b + 0) (omega (arith, slot)))
link_in b (suc i) (p ∷ ps) (l ∷ ls) same order in_range =
    by_test (same_phase p Unused) (ap (λ k. link_at k (known_in ps ls)) (let e : b + suc i ≡ b + 1 + i = omega arith in e) ∙ link_in (b + 1) i ps ls (omega (arith, same)) order.1 (omega (arith, in_range)))
  where
    by_test : (t : Bool) → link_at (b + suc i) (known_in ps ls) ≡ (if same_phase (get_or ps i Unused) Unused then None else Some (get_or ls i no_link))
        → link_at (b + suc i) (if t then known_in ps ls else record { link = l; phase = p } ∷ known_in ps ls) ≡ (if same_phase (get_or ps i Unused) Unused then None else Some (get_or ls i no_link))
    by_test true rest = rest
    by_test false rest = let slot = order.0 in ap (λ t. option_map (λ (k : Known). k.link) (cond t (Some (record { link = l; phase = p })) (at_slot (b + suc i) (known_in ps ls)))) (ne_eqb l.slot (b + suc i) (λ e. omega (arith, e, slot))) ∙ rest

-- a phase that is set on a slot below changes nothing
below_stays : (b k : ℕ) (q : LinkPhase) (ps : List LinkPhase) (ls : List LinkId) → k < b → AreInOrder b ls → set_phase k q (known_in ps ls) ≡ known_in ps ls
below_stays b k q [] ls low order = refl
below_stays b k q (p ∷ ps) [] low order = refl
below_stays b k q (p ∷ ps) (l ∷ ls) low order = by_test (same_phase p Unused) (below_stays (b + 1) k q ps ls (omega (arith, low)) order.1)
  where
    by_test : (t : Bool) → set_phase k q (known_in ps ls) ≡ known_in ps ls → set_phase k q (if t then known_in ps ls else record { link = l; phase = p } ∷ known_in ps ls) ≡ (if t then known_in ps ls else record { link = l; phase = p } ∷ known_in ps ls)
    by_test true rest = rest
    by_test false rest =
        let slot = order.0 in
        let this : Known = record { link = l; phase = p } in
        ap (λ t. (if t then record this { phase = q } else this) ∷ set_phase k q (known_in ps ls)) (ne_eqb l.slot k (λ e. omega (arith, e, slot, low))) ∙ ap (λ ks. this ∷ ks) rest

-- a used slot gets another phase
pub phase_set : (b i : ℕ) (q : LinkPhase) (ps : List LinkPhase) (ls : List LinkId) → length ps ≡ length ls → AreInOrder b ls
    → same_phase (get_or ps i Unused) Unused ≡ false → same_phase q Unused ≡ false → known_in (set ps i q) ls ≡ set_phase (b + i) q (known_in ps ls)
phase_set b i q [] ls same order used stays = cc
phase_set b i q (p ∷ ps) [] same order used stays = absurd (omega (arith, same))
phase_set b zero q (p ∷ ps) (l ∷ ls) same order used stays =
    let this : Known = record { link = l; phase = p } in
    let slot = order.0 in
    ap (λ t. if t then known_in ps ls else record { link = l; phase = q } ∷ known_in ps ls) stays
    ∙ sym (ap (λ t. set_phase (b + 0) q (if t then known_in ps ls else this ∷ known_in ps ls)) used
    ∙ (ap (λ t. (if t then record this { phase = q } else this) ∷ set_phase (b + 0) q (known_in ps ls)) (eq-eqb l.slot (b + 0) (omega (arith, slot)))
    ∙ ap (λ ks. record this { phase = q } ∷ ks) (below_stays (b + 1) (b + 0) q ps ls (omega arith) order.1)))
phase_set b (suc i) q (p ∷ ps) (l ∷ ls) same order used stays =
    by_test (same_phase p Unused) (phase_set (b + 1) i q ps ls (omega (arith, same)) order.1 used stays ∙ ap (λ k. set_phase k q (known_in ps ls)) (let e : b + 1 + i ≡ b + suc i = omega arith in e))
  where
    by_test : (t : Bool) → known_in (set ps i q) ls ≡ set_phase (b + suc i) q (known_in ps ls)
        → (if t then known_in (set ps i q) ls else record { link = l; phase = p } ∷ known_in (set ps i q) ls) ≡ set_phase (b + suc i) q (if t then known_in ps ls else record { link = l; phase = p } ∷ known_in ps ls)
    by_test true rest = rest
    by_test false rest =
        let this : Known = record { link = l; phase = p } in
        let slot = order.0 in
        ap (λ ks. this ∷ ks) rest
        ∙ sym (ap (λ t. (if t then record this { phase = q } else this) ∷ set_phase (b + suc i) q (known_in ps ls)) (ne_eqb l.slot (b + suc i) (λ e. omega (arith, e, slot))))

-- a link that is put below all others comes first
put_first : (b : ℕ) (new : Known) (ps : List LinkPhase) (ls : List LinkId) → new.link.slot < b → AreInOrder b ls → put new (known_in ps ls) ≡ new ∷ known_in ps ls
put_first b new [] ls low order = refl
put_first b new (p ∷ ps) [] low order = refl
put_first b new (p ∷ ps) (l ∷ ls) low order = by_test (same_phase p Unused) (put_first (b + 1) new ps ls (omega (arith, low)) order.1)
  where
    by_test : (t : Bool) → put new (known_in ps ls) ≡ new ∷ known_in ps ls → put new (if t then known_in ps ls else record { link = l; phase = p } ∷ known_in ps ls) ≡ new ∷ (if t then known_in ps ls else record { link = l; phase = p } ∷ known_in ps ls)
    by_test true rest = rest
    by_test false rest =
        let this : Known = record { link = l; phase = p } in
        let slot = order.0 in
        ap (λ t. if t then new ∷ known_in ps ls else if nat_lt new.link.slot l.slot then new ∷ this ∷ known_in ps ls else this ∷ put new (known_in ps ls)) (ne_eqb new.link.slot l.slot (λ e. omega (arith, e, slot, low)))
        ∙ ap (λ t. if t then new ∷ this ∷ known_in ps ls else this ∷ put new (known_in ps ls)) (lt_true new.link.slot l.slot (omega (arith, slot, low)))

-- a link is made
pub link_put : (b i : ℕ) (q : LinkPhase) (new : LinkId) (ps : List LinkPhase) (ls : List LinkId) → length ps ≡ length ls → AreInOrder b ls
    → new.slot ≡ b + i → i < length ps → same_phase q Unused ≡ false → known_in (set ps i q) (set ls i new) ≡ put (record { link = new; phase = q }) (known_in ps ls)
link_put b i q new [] ls same order slot in_range used = absurd (omega (arith, in_range))
link_put b i q new (p ∷ ps) [] same order slot in_range used = absurd (omega (arith, same))
link_put b zero q new (p ∷ ps) (l ∷ ls) same order slot in_range used = ap (λ t. if t then known_in ps ls else this ∷ known_in ps ls) used ∙ by_test (same_phase p Unused)
  where
    this : Known
    this = record { link = new; phase = q }

    by_test : (t : Bool) → record { link = new; phase = q } ∷ known_in ps ls ≡ put (record { link = new; phase = q }) (if t then known_in ps ls else record { link = l; phase = p } ∷ known_in ps ls)
    by_test true = sym (put_first (b + 1) (record { link = new; phase = q }) ps ls (omega (arith, slot)) order.1)
    by_test false =
        let there = order.0 in
        let fresh : Known = record { link = new; phase = q } in
        let old : Known = record { link = l; phase = p } in
        sym (ap (λ t. if t then fresh ∷ known_in ps ls else if nat_lt new.slot l.slot then fresh ∷ old ∷ known_in ps ls else old ∷ put fresh (known_in ps ls)) (eq-eqb new.slot l.slot (omega (arith, slot, there))))
link_put b (suc i) q new (p ∷ ps) (l ∷ ls) same order slot in_range used =
    by_test (same_phase p Unused) (link_put (b + 1) i q new ps ls (omega (arith, same)) order.1 (omega (arith, slot)) (omega (arith, in_range)) used)
  where
    by_test : (t : Bool) → known_in (set ps i q) (set ls i new) ≡ put (record { link = new; phase = q }) (known_in ps ls)
        → (if t then known_in (set ps i q) (set ls i new) else record { link = l; phase = p } ∷ known_in (set ps i q) (set ls i new)) ≡ put (record { link = new; phase = q }) (if t then known_in ps ls else record { link = l; phase = p } ∷ known_in ps ls)
    by_test true rest = rest
    by_test false rest =
        let there = order.0 in
        let fresh : Known = record { link = new; phase = q } in
        let old : Known = record { link = l; phase = p } in
        ap (λ ks. old ∷ ks) rest
        ∙ sym (ap (λ t. if t then fresh ∷ known_in ps ls else if nat_lt new.slot l.slot then fresh ∷ old ∷ known_in ps ls else old ∷ put fresh (known_in ps ls)) (ne_eqb new.slot l.slot (λ e. omega (arith, e, slot, there)))
        ∙ ap (λ t. if t then fresh ∷ old ∷ known_in ps ls else old ∷ put fresh (known_in ps ls)) (lt_false new.slot l.slot (omega (arith, slot, there))))

-- the order of the slots stays when a link is made
pub order_set : (b i : ℕ) (new : LinkId) (ls : List LinkId) → AreInOrder b ls → new.slot ≡ b + i → AreInOrder b (set ls i new)
order_set b i new [] order slot = tt
order_set b zero new (l ∷ ls) order slot = (omega (arith, slot), order.1)
order_set b (suc i) new (l ∷ ls) order slot = (order.0, order_set (b + 1) i new ls order.1 (omega (arith, slot)))

-- the lowest live slot is that of the first live link
pub lowest_in : (b : ℕ) (ps : List LinkPhase) (ls : List LinkId) → length ps ≡ length ls → AreInOrder b ls → lowest_from b ps ≡ option_map (λ link. link.slot) (first_live (known_in ps ls))
lowest_in b [] ls same order = refl
lowest_in b (p ∷ ps) [] same order = absurd (omega (arith, same))
lowest_in b (Unused ∷ ps) (l ∷ ls) same order = lowest_in (b + 1) ps ls (omega (arith, same)) order.1
lowest_in b (Pending ∷ ps) (l ∷ ls) same order = lowest_in (b + 1) ps ls (omega (arith, same)) order.1
lowest_in b (Dead ∷ ps) (l ∷ ls) same order = lowest_in (b + 1) ps ls (omega (arith, same)) order.1
lowest_in b (Live ∷ ps) (l ∷ ls) same order = ap (λ s. Some s) (sym order.0)

-- the phases of the slots, one by one
range_agree : (f g : ℕ → LinkPhase) (a n : ℕ) → ((k : ℕ) → a ≤ k → f k ≡ g k) → map f (range_with_len a n) ≡ map g (range_with_len a n)
range_agree f g a zero agree = refl
range_agree f g a (suc n) agree = ap (λ p. p ∷ map f (range_with_len (a + 1) n)) (agree a (omega arith)) ∙ ap (λ ps. g a ∷ ps) (range_agree f g (a + 1) n (λ k le. agree k (omega (arith, le))))

pub phases_in : (b : ℕ) (ps : List LinkPhase) (ls : List LinkId) → length ps ≡ length ls → AreInOrder b ls → ps ≡ map (λ k. phase_at k (known_in ps ls)) (range_with_len b (length ps))
phases_in b [] ls same order = refl
phases_in b (p ∷ ps) [] same order = absurd (omega (arith, same))
phases_in b (p ∷ ps) (l ∷ ls) same order =
    ap (λ q. q ∷ ps) (sym (ap (λ k. phase_at k (known_in (p ∷ ps) (l ∷ ls))) (let e : b ≡ b + 0 = omega arith in e) ∙ phase_in b 0 (p ∷ ps) (l ∷ ls) same order))
    ∙ ap (λ qs. phase_at b (known_in (p ∷ ps) (l ∷ ls)) ∷ qs) (phases_in (b + 1) ps ls (omega (arith, same)) order.1
    ∙ range_agree (λ k. phase_at k (known_in ps ls)) (λ k. phase_at k (known_in (p ∷ ps) (l ∷ ls))) (b + 1) (length ps) (λ k le. by_test k le (same_phase p Unused)))
  where
    by_test : (k : ℕ) → b + 1 ≤ k → (t : Bool) → phase_at k (known_in ps ls) ≡ phase_at k (if t then known_in ps ls else record { link = l; phase = p } ∷ known_in ps ls)
    by_test k le true = refl
    by_test k le false = let slot = order.0 in sym (ap (λ t. unwrap_or (option_map (λ (j : Known). j.phase) (cond t (Some (record { link = l; phase = p })) (at_slot k (known_in ps ls)))) Unused) (ne_eqb l.slot k (λ e. omega (arith, e, slot, le))))
