-- A list is cut at the first place that passes.
use Rattle.std.proofs.Common.{◌≡◌, ◌∙◌, ℕ, ◌+◌, ◌≤◌, ◌-◌, Bool, true, false, List, [], ◌∷◌, length, take, drop, refl, Some, None, position, cond, ap, sym, arith}
use Rattle.std.specs.List.{slice_split, position_or_len}
use Rattle.std.proofs.lemmas.Bool.{ltb-true, ltb-false}
use Rattle.std.proofs.lemmas.Option.{cond_some}
use Rattle.std.proofs.lemmas.List.{take_rest}
use Rattle.std.proofs.lemmas.List.Splits.{slice_split_none, slice_split_first}
use Rattle.std.proofs.lemmas.List.Sums.{fails_before_first}

pub cond_none : {A : Type 0} (b : Bool) (x : A) → cond b (Some x) None ≡ None → b ≡ false
cond_none true x e = cc
cond_none false x e = refl

module _ (p : ℕ → Bool) (xs : List ℕ) where
  pub whole_where_none : position p xs ≡ None → slice_split p xs ≡ xs ∷ []
  whole_where_none e =
      let past : length xs ≤ position_or_len p xs = ltb-false _ _ (cond_none _ _ e) in
      slice_split_none p xs (λ k d l. fails_before_first p xs k d (omega arith))

  pub cut_at_first : (i : ℕ) → position p xs ≡ Some i → slice_split p xs ≡ take i xs ∷ slice_split p (take (length xs - (i + 1)) (drop (i + 1) xs))
  cut_at_first i e =
      let found = cond_some _ _ _ e in
      slice_split_first p xs 0 (ltb-true _ _ found.0) ∙ ap (λ n. take n xs ∷ slice_split p (drop (n + 1) xs)) found.1 ∙ ap (λ r. take i xs ∷ slice_split p r) (sym (take_rest xs (i + 1)))
