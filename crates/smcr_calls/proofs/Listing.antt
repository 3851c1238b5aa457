-- Loops that put the texts of a list's items one after another.
use Rattle.std.proofs.Common.{ℕ, ◌+◌, ◌<◌, true, false, List, Option, Result, length, get_or, drop}
use Rattle.std.specs.List.{flat_map}
use Rattle.std.specs.Result.{IsErr}
use Rattle.byte_port.specs.Pages.{Stands, Wrote}
use Rattle.byte_port.proofs.Paging.{Going, one_more}
use Rattle.smcr_calls.proofs.Putting.{broke_off, next_text}

module _ {X : Type 0} (f : X → List ℕ) (xs : List X) (i : ℕ) (d : X) (more : i < length xs) (a : Option (List ℕ)) (p : List ℕ) (b : Option (List ℕ)) (q : List ℕ) (c : Option (List ℕ)) (r : List ℕ) (going : Going a p b q (flat_map f (drop i xs)) (flat_map f xs)) where
  -- the text of the next item was put
  pub next_put : Stands true b q c r (f (get_or xs i d)) → Going a p c r (flat_map f (drop (i + 1) xs)) (flat_map f xs)
  next_put s = one_more a p b q (flat_map f (drop i xs)) (flat_map f xs) going c r (f (get_or xs i d)) (flat_map f (drop (i + 1) xs)) (next_text f xs i d more) s

  -- a front of it was
  pub next_cut : {T E : Type 0} (result : Result T E) → IsErr result → Stands false b q c r (f (get_or xs i d)) → Wrote result a p c r (flat_map f xs)
  next_cut result failed s = broke_off a p b q (f (get_or xs i d)) (flat_map f xs) (flat_map f (drop i xs)) (flat_map f (drop (i + 1) xs)) result c r failed going (next_text f xs i d more) s
