-- The values that clap finds are the words without the first `--`.
use Rattle.std.proofs.Common.{◌≡◌, ◌∙◌, ◌⊎◌, inl, inr, ℕ, Bool, true, false, not, ◌&&◌, ◌==◌, List, [], ◌∷◌, Option, Some, None, is_some, refl, sym, ap, true≢false}
use Rattle.clap.specs.Walk.{Text}
use Rattle.smcr_words.specs.Commands.{without_dashes}
use Rattle.smcr_words.specs.Reading.{is_dashes, is_flag, values_of, begins_with_hyphen, no_hyphens}

-- a Bool is one or the other
pub tells : (b : Bool) → (b ≡ true) ⊎ (b ≡ false)
tells true = inl refl
tells false = inr refl

both : (a b : Bool) → (a && b) ≡ true → (a ≡ true) × (b ≡ true)
both true b e = (refl, e)
both false b e = absurd (true≢false (sym e))

pub is_false : (a : Bool) → not a ≡ true → a ≡ false
is_false true e = absurd (true≢false (sym e))
is_false false e = refl

unwrap : List Text → Option (List Text) → List Text
unwrap d None = d
unwrap d (Some xs) = xs

left_by : (w : Text) (ws vs : List Text) → (is_dashes w ≡ true) ⊎ (is_dashes w ≡ false) → (is_flag w ≡ true) ⊎ (is_flag w ≡ false) → (o : Option (List Text)) → values_of ws ≡ o
    → ((us : List Text) → values_of ws ≡ Some us → without_dashes ws ≡ us) → values_of (w ∷ ws) ≡ Some vs → without_dashes (w ∷ ws) ≡ vs
unfolding unwrap
left_by w ws vs (inl d) f o is rest e = rw d (ap (unwrap []) (rw d at e))
left_by w ws vs (inr d) (inl f) o is rest e = absurd (true≢false (sym (ap is_some (rw (d, f) at e))))
left_by w ws vs (inr d) (inr f) None is rest e = absurd (true≢false (sym (ap is_some (rw (d, f, is) at e))))
left_by w ws vs (inr d) (inr f) (Some us) is rest e = rw d (ap (λ xs. w ∷ xs) (rest us is) ∙ ap (unwrap []) (rw (d, f, is) at e))

-- the values that are found are all words but the first `--`
pub values_are_without_dashes : (ws vs : List Text) → values_of ws ≡ Some vs → without_dashes ws ≡ vs
unfolding unwrap
values_are_without_dashes [] vs e = ap (unwrap []) e
values_are_without_dashes (w ∷ ws) vs e = left_by w ws vs (tells (is_dashes w)) (tells (is_flag w)) (values_of ws) refl (values_are_without_dashes ws) e

hyphen_by : (x : ℕ) (xs : Text) → (x == 45) ≡ false → is_flag (x ∷ xs) ≡ false
hyphen_by x xs e = rw e refl

no_flag : (w : Text) → begins_with_hyphen w ≡ false → is_flag w ≡ false
no_flag [] e = refl
no_flag (x ∷ xs) e = hyphen_by x xs e

values_by : (w : Text) (ws : List Text) → (is_dashes w ≡ true) ⊎ (is_dashes w ≡ false) → (no_hyphens (without_dashes ws) ≡ true → values_of ws ≡ Some (without_dashes ws)) → no_hyphens (without_dashes (w ∷ ws)) ≡ true
    → values_of (w ∷ ws) ≡ Some (without_dashes (w ∷ ws))
values_by w ws (inl d) rest h = rw d refl
values_by w ws (inr d) rest h =
    let b = both (not (begins_with_hyphen w)) (no_hyphens (without_dashes ws)) (rw d at h) in
    rw (d, no_flag w (is_false _ b.0), rest b.1) refl

-- and where none of those begins with a hyphen, they are found
pub without_dashes_are_values : (ws : List Text) → no_hyphens (without_dashes ws) ≡ true → values_of ws ≡ Some (without_dashes ws)
without_dashes_are_values [] h = refl
without_dashes_are_values (w ∷ ws) h = values_by w ws (tells (is_dashes w)) (without_dashes_are_values ws) h
