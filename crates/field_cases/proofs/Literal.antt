-- A table that is written out: where the test `is_sound` computes to true, `check` doesn't refuse it.
use Rattle.std.proofs.Common.{◌≡◌, ◌∙◌, ◌<◌, ◌⊎◌, inl, inr, ℕ, zero, suc, Bool, true, false, not, ◌&&◌, ◌||◌, List, [], ◌∷◌, sym, ap, refl, true≢false, ⊎_elim, ◌-◌, arith}
use Rattle.std.specs.Prelude.{slice_get}
use Rattle.std.specs.List.{list_any}
use Rattle.std.specs.Option.{option_map_or}
use Rattle.field_cases.specs.declared.table.Row.{Row}
use Rattle.field_cases.specs.Table.{same_case, has_no_twin, all_below, has_row, is_sound, HasNoTwin, IsWhole, IsSound}

both : (a b : Bool) → (a && b) ≡ true → (a ≡ true) × (b ≡ true)
both true b e = (refl, e)
both false b e = absurd (true≢false (sym e))

is_false : (a : Bool) → not a ≡ true → a ≡ false
is_false true e = absurd (true≢false (sym e))
is_false false e = refl

neither : (a b : Bool) → (a || b) ≡ false → (a ≡ false) × (b ≡ false)
neither true b e = absurd (true≢false e)
neither false b e = (refl, e)

-- where a test passes at no element, it passes at no place
none_at : {X : Type 0} (test : X → Bool) (xs : List X) → list_any test xs ≡ false → (j : ℕ) → option_map_or test (slice_get xs j) false ≡ false
none_at test [] e zero = refl
none_at test [] e (suc j) = refl
none_at test (x ∷ xs) e zero = let parts = neither (test x) _ e in parts.0
none_at test (x ∷ xs) e (suc j) = let parts = neither (test x) _ e in none_at test xs parts.1 j

no_twin : (rows : List Row) → has_no_twin rows ≡ true → HasNoTwin rows
no_twin [] e zero j less = refl
no_twin [] e (suc i) j less = refl
no_twin (row ∷ rows) e zero zero less = absurd (omega arith)
no_twin (row ∷ rows) e zero (suc j) less =
    let parts = both (not (list_any (same_case row) rows)) _ e in none_at (same_case row) rows (is_false _ parts.0) j
no_twin (row ∷ rows) e (suc i) zero less = absurd (omega arith)
no_twin (row ∷ rows) e (suc i) (suc j) less =
    let parts = both (not (list_any (same_case row) rows)) _ e in no_twin rows parts.1 i j (omega arith)

last_or_below : (k n d : ℕ) → k < suc n → n - k ≡ d → (k ≡ n) ⊎ (k < n)
last_or_below k n zero less e = inl (omega arith)
last_or_below k n (suc d) less e = inr (omega arith)

-- a test that passes at each number below n passes at this one
passes_below : (n : ℕ) (test : ℕ → Bool) → all_below n test ≡ true → (k : ℕ) → k < n → test k ≡ true
passes_below zero test e k less = absurd (omega arith)
passes_below (suc n) test e k less =
    let parts = both (test n) _ e in
    ⊎_elim (λ is. ap test is ∙ parts.0) (λ below. passes_below n test parts.1 k below) (last_or_below k n (n - k) less refl)

whole : (rows : List Row) (states messages : ℕ) → all_below states (λ s. all_below messages (λ m. has_row rows s m)) ≡ true → IsWhole rows states messages
whole rows states messages e s m known_state known_message =
    passes_below messages (λ m. has_row rows s m) (passes_below states (λ s. all_below messages (λ m. has_row rows s m)) e s known_state) m known_message

-- a table that passes the test is sound; so behind `match TABLE.check()` the arm `Err(_) => unreachable!()`
-- has the answer `unreachable-requires c = true≢false (sym (c.in-Err.ensures.sound.1 (tested_is_sound _ _ _ refl)))`
pub tested_is_sound : (rows : List Row) (states messages : ℕ) → is_sound rows states messages ≡ true → IsSound rows states messages
tested_is_sound rows states messages e =
    let parts = both (has_no_twin rows) _ e in (no_twin rows parts.0, whole rows states messages parts.1)
