-- Lists that give something for each socket: what stands there, and one place changed.
use Rattle.std.proofs.Common.{◌≡◌, ◌∙◌, ℕ, ◌+◌, ◌<◌, ◌==◌, false, List, [], ◌∷◌, length, map, refl, ap, sym, suc, zero, arith, ne_eqb}
use Rattle.std.specs.Prelude.{slice_index_or, slice_set}
use Rattle.std.specs.List.{range_with_len}
use Rattle.std.proofs.lemmas.List.FromFn.{get_or-map-range_with_len, length-map-range_with_len}
use Rattle.world_core.specs.Managers.{each_socket}

-- a function that gives the same everywhere
pub map-alike : {X Y : Type 0} (f g : X → Y) → ((x : X) → f x ≡ g x) → (xs : List X) → map f xs ≡ map g xs
map-alike f g e [] = refl
map-alike f g e (x ∷ xs) = ap (λ y. y ∷ map f xs) (e x) ∙ ap (λ ys. g x ∷ ys) (map-alike f g e xs)

module _ {X : Type 0} (f : ℕ → X) where
  -- what stands at a socket
  pub at-socket : (n s : ℕ) (d : X) → s < n → slice_index_or (each_socket f n) s d ≡ f s
  at-socket n s d l = get_or-map-range_with_len f 0 n s s d l (omega arith)

  pub sockets-long : (n : ℕ) → length (each_socket f n) ≡ n
  sockets-long n = length-map-range_with_len f 0 n

module _ {X : Type 0} (f g : ℕ → X) where
  pub same-sockets : ((t : ℕ) → f t ≡ g t) → (n : ℕ) → each_socket f n ≡ each_socket g n
  same-sockets e n = map-alike f g e (range_with_len 0 n)

  behind : (from n s : ℕ) → ((t : ℕ) → (t == s) ≡ false → g t ≡ f t) → s < from → map f (range_with_len from n) ≡ map g (range_with_len from n)
  behind from zero s e l = refl
  behind from (suc n) s e l =
      ap (λ y. y ∷ map f (range_with_len (from + 1) n)) (sym (e from (ne_eqb from s (λ h. omega (arith, h, l)))))
      ∙ ap (λ ys. g from ∷ ys) (behind (from + 1) n s e (omega (arith, l)))

  set-from : (from n i s : ℕ) → from + i ≡ s → ((t : ℕ) → (t == s) ≡ false → g t ≡ f t) → slice_set (map f (range_with_len from n)) i (g s) ≡ map g (range_with_len from n)
  set-from from zero i s at e = refl
  set-from from (suc n) zero s at e =
      let here : s ≡ from = omega (arith, at) in
      ap (λ y. y ∷ map f (range_with_len (from + 1) n)) (ap g here) ∙ ap (λ ys. g from ∷ ys) (behind (from + 1) n s e (omega (arith, here)))
  set-from from (suc n) (suc i) s at e =
      ap (λ y. y ∷ slice_set (map f (range_with_len (from + 1) n)) i (g s)) (sym (e from (ne_eqb from s (λ h. omega (arith, h, at)))))
      ∙ ap (λ ys. g from ∷ ys) (set-from (from + 1) n i s (omega (arith, at)) e)

  -- one socket changes
  pub set-socket : (n s : ℕ) → ((t : ℕ) → (t == s) ≡ false → g t ≡ f t) → slice_set (each_socket f n) s (g s) ≡ each_socket g n
  set-socket n s e = set-from 0 n s s (omega arith) e
