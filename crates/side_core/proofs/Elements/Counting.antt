-- Free elements, and what is known of the lowest one.
-- A reader learns here that a side with one RMB, whose key its peer knows, never has to ask for that key.
use Rattle.std.proofs.Common.{◌≡◌, ◌∙◌, ℕ, zero, suc, ◌+◌, ◌<◌, ◌==◌, not, cond, Bool, true, false, List, [], ◌∷◌, length, map, filter, Option, Some, None, IsSome, refl, sym, ap, arith, true≢false, option_map}
use Rattle.std.specs.List.{position, position_or_len}
use Rattle.std.specs.Prelude.{nat_lt, slice_index_or}
use Rattle.smc_num.specs.Names.{has}
use Rattle.smc_num.specs.Places.{all_places}
use Rattle.pipe_model.specs.Words.{passes}
use Rattle.element_ledger.specs.Lendings.{Row, first_free, is_lent}
use Rattle.side_core.specs.Desk.{Desk, free_place}
use Rattle.side_core.proofs.Elements.OneRmb.{first_in_one}

-- a number that is not 0
pub above_none : (n : ℕ) → (n == 0) ≡ false → 0 < n
above_none zero e = absurd (true≢false e)
above_none (suc n) e = omega arith

-- how many elements are free
abbrev pub free_count : List Row → ℕ
free_count rows = length (filter (λ r. not (is_lent r)) rows)

-- where some are free there is a first one
pub some_free : (rows : List Row) → 0 < free_count rows → IsSome (first_free rows)
some_free [] some = absurd (omega (arith, some))
some_free (r ∷ rows) some = by_test (not (is_lent r)) some (some_free rows)
  where
    by_test : (b : Bool) → 0 < length (cond b (r ∷ filter (λ q. not (is_lent q)) rows) (filter (λ q. not (is_lent q)) rows)) → (0 < free_count rows → IsSome (first_free rows)) → IsSome (cond b (Some r) (first_free rows))
    by_test true few rest = refl
    by_test false few rest = rest few

-- what there is, is something
pub is_there : {X : Type 0} (o : Option X) → IsSome o → (x : X) × (o ≡ Some x)
is_there None some = absurd (true≢false (sym some))
is_there (Some x) some = (x, refl)

-- the key of the RMB of the lowest free element is known, where that of the one RMB is
pub key_known : (d : Desk) (elements : ℕ) → map (λ r. r.place) d.rows ≡ all_places 1 elements → d.confirmed ≡ 1 ∷ [] → 0 < free_count d.rows → passes (λ p. has p.rmb d.confirmed) (free_place d) ≡ true
key_known d elements places confirmed some =
    let (r, e) = is_there (first_free d.rows) (some_free d.rows some) in
    ap (λ o. passes (λ p. has p.rmb d.confirmed) (option_map (λ (q : Row). q.place) o)) e
    ∙ ap (λ ns. has r.place.rmb ns) confirmed
    ∙ ap (λ n. has n (1 ∷ [])) (first_in_one elements d.rows r places e)

-- the first that passes stands at the same place in two lists that are alike
alike_len : {X Y : Type 0} (p : X → Bool) (q : Y → Bool) (xs : List X) (ys : List Y) (d : X) (e : Y) → length xs ≡ length ys → ((k : ℕ) → p (slice_index_or xs k d) ≡ q (slice_index_or ys k e)) → position_or_len p xs ≡ position_or_len q ys
alike_len p q [] [] d e same alike = refl
alike_len p q [] (y ∷ ys) d e same alike = absurd (omega (arith, same))
alike_len p q (x ∷ xs) [] d e same alike = absurd (omega (arith, same))
alike_len p q (x ∷ xs) (y ∷ ys) d e same alike =
    ap (λ b. cond (not b) (1 + position_or_len p xs) 0) (alike 0)
    ∙ ap (λ n. cond (not (q y)) (1 + n) 0) (alike_len p q xs ys d e (omega (arith, same)) (λ k. alike (suc k)))

pub alike_position : {X Y : Type 0} (p : X → Bool) (q : Y → Bool) (xs : List X) (ys : List Y) (d : X) (e : Y) → length xs ≡ length ys → ((k : ℕ) → p (slice_index_or xs k d) ≡ q (slice_index_or ys k e)) → position p xs ≡ position q ys
alike_position p q xs ys d e same alike =
    ap (λ n. cond (nat_lt n (length xs)) (Some n) None) (alike_len p q xs ys d e same alike)
    ∙ ap (λ n. cond (nat_lt (position_or_len q ys) n) (Some (position_or_len q ys)) None) same
