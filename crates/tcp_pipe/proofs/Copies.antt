-- Two slices copied into the front of a list, as much as fits, are the front of both together.
use Rattle.std.proofs.Common.{◌≡◌, ◌∙◌, ℕ, zero, suc, ◌+◌, ◌-◌, ◌⊎◌, inl, inr, ⊎_elim, List, ◌++◌, length, min, take, drop, sym, ap, ap₂, refl, append_assoc, arith}
use Rattle.std.proofs.lemmas.Grind.{common_steps}
use Rattle.std.proofs.Math.Seq.{take-append-add}
use Rattle.std.proofs.lemmas.List.{take_all}

-- the smaller of two is one of them
least : (n a b d : ℕ) → n ≡ min a b → a - b ≡ d → (n ≡ a) ⊎ (n ≡ b)
least n a b zero e h = inl (omega arith)
least n a b (suc d) e h = inr (omega arith)

module _ (items front back out rest : List ℕ) (n m : ℕ) (all : front ++ back ≡ items) (first : n ≡ min (length front) (length out)) (second : m ≡ min (length (drop n out)) (length back)) (then : rest ≡ take m back ++ drop m (drop n out)) where
  whole_front : n ≡ length front → take (n + m) items ≡ take n front ++ take m back
  whole_front e = ap₂ (λ (k : ℕ) (xs : List ℕ). take (k + m) xs) e (sym all) ∙ take-append-add front back m ∙ ap (λ xs. xs ++ take m back) (sym (take_all n front (omega arith)))

  out_is_full : n ≡ length out → take (n + m) items ≡ take n front ++ take m back
  out_is_full e = grind (arith, common_steps)

  front_of_both : take (n + m) items ≡ take n front ++ take m back
  front_of_both = ⊎_elim whole_front out_is_full (least n (length front) (length out) (length front - length out) first refl)

  places_past : drop m (drop n out) ≡ drop (n + m) out
  places_past = grind (arith, common_steps)

  pub two_copies : take n front ++ rest ≡ take (n + m) items ++ drop (n + m) out
  two_copies =
      ap (λ (b : List ℕ). take n front ++ b) (then ∙ ap (λ b. take m back ++ b) places_past)
      ∙ sym (append_assoc (take n front) (take m back) (drop (n + m) out)) ∙ ap (λ a. a ++ drop (n + m) out) (sym front_of_both)
