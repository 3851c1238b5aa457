use Rattle.std.proofs.Common.{ℕ, ◌≤◌, List, inl, inr, arith}
use Rattle.std.proofs.lemmas.Bool.{cases_lt}
use Rattle.smc_num.specs.declared.LinkPhase.{LinkPhase}
use Rattle.failover.specs.Choices.{IsFewest}
use Rattle.failover.proofs.laws.one_link_has_the_fewest.Goals as goal

-- of two, neither can be lower
not_lower : (phases : List LinkPhase) (loads : List ℕ) (a b : ℕ) (x : IsFewest phases loads a) (y : IsFewest phases loads b) → y.at ≤ x.at
not_lower phases loads a b x y = elim (cases_lt x.at y.at) [ inl lt ↦ let less = y.lowest x.at lt x.live in let fewest = x.fewest y.at y.live in absurd (omega (arith, less, fewest)) | inr ge ↦ ge ]

pub returns : goal.returns
returns c = λ phases loads a b x y.
    let one = not_lower phases loads a b x y in
    let two = not_lower phases loads b a y x in
    let there = x.place in
    let here = y.place in
    omega (arith, one, two, there, here)
