-- A side with one RMB: its elements lie in it, and its key for the slot is known.
use Rattle.std.proofs.Common.{true≢false, ◌==◌, ℕ, ◌≡◌, ◌∙◌, List, [], ◌∷◌, ◌++◌, map, cond, option_map, unwrap_or, not, Bool, true, false, Some, None, refl, sym, ap, subst}
use Rattle.std.specs.Prelude.{IsSome}
use Rattle.std.proofs.lemmas.Bool.{eq-eqb}
use Rattle.smc_num.specs.declared.LinkId.{LinkId}
use Rattle.smc_num.specs.Links.{Known, is_live, first_live, lowest_live, live_links, link_at}
use Rattle.pipe_model.specs.Posts.{lightest}
use Rattle.side_core.specs.Fit.{IsOneSlot}
use Rattle.smc_num.specs.Places.{Place, all_places}
use Rattle.smc_num.specs.Names.{up_to}
use Rattle.element_ledger.specs.Lendings.{Row, first_free, is_lent}

-- all places lie in an RMB
abbrev AreIn : ℕ → List Place → Type 0
AreIn rmb [] = Unit {0}
AreIn rmb (p ∷ ps) = (p.rmb ≡ rmb) × AreIn rmb ps

mapped_in : (rmb : ℕ) (ns : List ℕ) → AreIn rmb (map (λ i. let p : Place = record { rmb = rmb; index = i } in p) ns ++ [])
mapped_in rmb [] = _
mapped_in rmb (n ∷ ns) = (refl, mapped_in rmb ns)

found_in : (rmb : ℕ) (rows : List Row) (r : Row) → AreIn rmb (map (λ q. q.place) rows) → first_free rows ≡ Some r → r.place.rmb ≡ rmb
found_in rmb [] r all e = absurd (let n : None ≡ Some r = e in cc)
found_in rmb (q ∷ rows) r all e = by_test (not (is_lent q)) e (found_in rmb rows r all.1)
  where
    by_test : (b : Bool) → cond b (Some q) (first_free rows) ≡ Some r → (first_free rows ≡ Some r → r.place.rmb ≡ rmb) → r.place.rmb ≡ rmb
    by_test true same rest = ap (λ x. x.place.rmb) (let s : r ≡ q = cc in s) ∙ all.0
    by_test false later rest = rest later

-- the first free element of a side with one RMB is in it
pub first_in_one : (elements : ℕ) (rows : List Row) (r : Row) → map (λ q. q.place) rows ≡ all_places 1 elements → first_free rows ≡ Some r → r.place.rmb ≡ 1
first_in_one elements rows r ledger e = found_in 1 rows r (subst (λ ps. AreIn 1 ps) (sym ledger) (mapped_in 1 (up_to elements))) e

-- the one live link of one slot is the lightest
pub one_live : (known : List Known) (used : List LinkId) (link : LinkId) → IsOneSlot known → IsSome (first_live known) → link_at (lowest_live known) known ≡ Some link → link ≡ lightest used (live_links known)
one_live [] used link slot some is = absurd (true≢false (sym some))
one_live (k ∷ a ∷ more) used link slot some is = absurd slot
one_live (k ∷ []) used link slot some is = by_live (is_live k.phase) some is
  where
    by_live : (b : Bool) → IsSome (option_map (λ (x : Known). x.link) (cond b (Some k) None))
        → option_map (λ (x : Known). x.link) (cond (k.link.slot == unwrap_or (option_map (λ (l : LinkId). l.slot) (option_map (λ (x : Known). x.link) (cond b (Some k) None))) 0) (Some k) None) ≡ Some link
        → link ≡ lightest used (map (λ (x : Known). x.link) (cond b (k ∷ []) []))
    by_live false never found = absurd (true≢false (sym never))
    by_live true live found = let same : option_map (λ (x : Known). x.link) (cond true (Some k) None) ≡ Some link = ap (λ b. option_map (λ (x : Known). x.link) (cond b (Some k) None)) (sym (eq-eqb k.link.slot k.link.slot refl)) ∙ found in
        let one : k.link ≡ link = cc in sym one
