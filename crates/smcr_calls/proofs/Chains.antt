-- Calls one after another: what a call that failed, and what the last one, leaves of the whole text.
use Rattle.std.proofs.Common.{Bool, true, false, ℕ, List, ◌++◌, Option, Result, Ok, Err}
use Rattle.std.specs.Result.{IsErr}
use Rattle.byte_port.specs.Pages.{Stands, Wrote}
use Rattle.byte_port.proofs.Paging.{more, behind}

module _ (a : Option (List ℕ)) (p : List ℕ) (b : Option (List ℕ)) (q : List ℕ) (xs : List ℕ) where
  -- a front of the first text was put
  pub first_cut : {T E : Type 0} (result : Result T E) (ys : List ℕ) → IsErr result → Stands false a p b q xs → Wrote result a p b q (xs ++ ys)
  first_cut (Ok x) ys e s = absurd (cc)
  first_cut (Err x) ys e s = more a p b q xs ys s

  module _ (s : Stands true a p b q xs) (c : Option (List ℕ)) (r : List ℕ) (ys : List ℕ) where
    -- the first text was put, and a front of the second
    pub second_cut : {T E : Type 0} (result : Result T E) (zs : List ℕ) → IsErr result → Stands false b q c r ys → Wrote result a p c r (xs ++ (ys ++ zs))
    second_cut (Ok x) zs e t = absurd (cc)
    second_cut (Err x) zs e t = behind a p false c r xs (ys ++ zs) b q s (more b q c r ys zs t)

    -- two texts were put, or the first and a front of the second
    pub second_put : (whole : Bool) → Stands whole b q c r ys → Stands whole a p c r (xs ++ ys)
    second_put whole t = behind a p whole c r xs ys b q s t

    -- three texts were put, or the first two and a front of the third
    pub third_put : (t : Stands true b q c r ys) (d : Option (List ℕ)) (u : List ℕ) (zs : List ℕ) (whole : Bool) → Stands whole c r d u zs → Stands whole a p d u (xs ++ (ys ++ zs))
    third_put t d u zs whole v = behind a p whole d u xs (ys ++ zs) b q s (behind b q whole d u ys zs c r t v)
