-- Whether a link is among the live ones: it is looked for at its slot alone.
use Rattle.std.proofs.Common.{◌≡◌, ◌∙◌, ℕ, zero, suc, ◌+◌, ◌<◌, ◌≤◌, ◌==◌, ◌&&◌, ◌||◌, Bool, true, false, List, [], ◌∷◌, length, get_or, refl, ap, arith}
use Rattle.std.proofs.lemmas.Bool.{ne_eqb}
use Rattle.smc_num.specs.declared.LinkId.{LinkId}
use Rattle.smc_num.specs.declared.LinkPhase.{LinkPhase}
use Rattle.smc_num.specs.declared.LinkPhase.TheVariants.{Unused, Pending, Live, Dead}
use Rattle.smc_num.specs.Names.{same_link, has_link, no_link}
use Rattle.smc_num.specs.Links.{is_live, live_links}
use Rattle.failover.specs.Tables.{known_in, AreInOrder}

-- links of two slots are two links
other_slot : (a b : LinkId) → (a.slot ≡ b.slot → ⊥) → same_link a b ≡ false
other_slot a b apart = ap (λ t. (a.group == b.group) && (t && (a.incarnation == b.incarnation))) (ne_eqb a.slot b.slot apart) ∙ by_group (a.group == b.group)
  where
    by_group : (t : Bool) → (t && false) ≡ false
    by_group true = refl
    by_group false = refl

or_none : (t : Bool) → (t || false) ≡ t
or_none true = refl
or_none false = refl

-- a link whose slot is none of these is not among the live ones
pub none_live : (link : LinkId) (b : ℕ) (ps : List LinkPhase) (ls : List LinkId) → ((k : ℕ) → b ≤ k → k < b + length ls → link.slot ≡ k → ⊥) → AreInOrder b ls
    → has_link link (live_links (known_in ps ls)) ≡ false
none_live link b [] ls out order = refl
none_live link b (p ∷ ps) [] out order = refl
none_live link b (Unused ∷ ps) (l ∷ ls) out order = none_live link (b + 1) ps ls (λ k low high e. out k (omega (arith, low)) (omega (arith, high)) e) order.1
none_live link b (Pending ∷ ps) (l ∷ ls) out order = none_live link (b + 1) ps ls (λ k low high e. out k (omega (arith, low)) (omega (arith, high)) e) order.1
none_live link b (Dead ∷ ps) (l ∷ ls) out order = none_live link (b + 1) ps ls (λ k low high e. out k (omega (arith, low)) (omega (arith, high)) e) order.1
none_live link b (Live ∷ ps) (l ∷ ls) out order =
    ap (λ t. t || has_link link (live_links (known_in ps ls))) (other_slot link l (λ e. out b (omega arith) (omega arith) (e ∙ order.0)))
    ∙ none_live link (b + 1) ps ls (λ k low high e. out k (omega (arith, low)) (omega (arith, high)) e) order.1

-- a link is live exactly where it is the one of its slot, in that phase
pub live_in : (link : LinkId) (b i : ℕ) (ps : List LinkPhase) (ls : List LinkId) → length ps ≡ length ls → AreInOrder b ls → link.slot ≡ b + i → i < length ps
    → has_link link (live_links (known_in ps ls)) ≡ (is_live (get_or ps i Unused) && same_link link (get_or ls i no_link))
live_in link b i [] ls same order slot in_range = absurd (omega (arith, in_range))
live_in link b i (p ∷ ps) [] same order slot in_range = absurd (omega (arith, same))
live_in link b zero (Unused ∷ ps) (l ∷ ls) same order slot in_range = none_live link (b + 1) ps ls (λ k low high e. omega (arith, low, e, slot)) order.1
live_in link b zero (Pending ∷ ps) (l ∷ ls) same order slot in_range = none_live link (b + 1) ps ls (λ k low high e. omega (arith, low, e, slot)) order.1
live_in link b zero (Dead ∷ ps) (l ∷ ls) same order slot in_range = none_live link (b + 1) ps ls (λ k low high e. omega (arith, low, e, slot)) order.1
live_in link b zero (Live ∷ ps) (l ∷ ls) same order slot in_range =
    ap (λ t. same_link link l || t) (none_live link (b + 1) ps ls (λ k low high e. omega (arith, low, e, slot)) order.1) ∙ or_none (same_link link l)
live_in link b (suc i) (Unused ∷ ps) (l ∷ ls) same order slot in_range = live_in link (b + 1) i ps ls (omega (arith, same)) order.1 (omega (arith, slot)) (omega (arith, in_range))
live_in link b (suc i) (Pending ∷ ps) (l ∷ ls) same order slot in_range = live_in link (b + 1) i ps ls (omega (arith, same)) order.1 (omega (arith, slot)) (omega (arith, in_range))
live_in link b (suc i) (Dead ∷ ps) (l ∷ ls) same order slot in_range = live_in link (b + 1) i ps ls (omega (arith, same)) order.1 (omega (arith, slot)) (omega (arith, in_range))
live_in link b (suc i) (Live ∷ ps) (l ∷ ls) same order slot in_range =
    let there = order.0 in
    ap (λ t. t || has_link link (live_links (known_in ps ls))) (other_slot link l (λ e. omega (arith, e, slot, there)))
    ∙ live_in link (b + 1) i ps ls (omega (arith, same)) order.1 (omega (arith, slot)) (omega (arith, in_range))
