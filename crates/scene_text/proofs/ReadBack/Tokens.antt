-- Names, sides and ends that are printed are read as the same.
use Rattle.std.proofs.Common.{◌≡◌, ℕ, ◌<◌, Bool, true, false, List, [], ◌∷◌, ◌++◌, length, Ok, Err, cond, refl, ap, arith}
use Rattle.std.specs.Prelude.{codes}
use Rattle.std.specs.List.{list_all}
use Rattle.std.specs.Char.{is_ascii_lowercase}
use Rattle.std.proofs.lemmas.Bool.{and_parts, and_from}
use Rattle.std.proofs.lemmas.Bool.Decides.{nat_tests}
use Rattle.smc_num.specs.declared.Side.{Side}
use Rattle.smc_num.specs.declared.Side.TheVariants.{A, B}
use Rattle.scene_text.specs.declared.faults.LineKind.TheVariants as kinds
use Rattle.scene_text.specs.Words.{◌>>=◌, is_name_byte, is_name, name_of, side_in, answer_of, NamedEnd, end_of}
use Rattle.scene_text.specs.Spelling.{side_text}
use Rattle.scene_text.specs.Printing.{answer_text}
use Rattle.scene_text.proofs.ReadBack.Splits.{all-weaker, is_plain, is_word_byte, plain_in_words, IsWord}

pub name_read : (name : List ℕ) → is_name name ≡ true → name_of name ≡ Ok name
name_read name h = ap (λ t. cond t (Ok name) (Err kinds.Name)) h

letter_plain : (b : ℕ) → is_ascii_lowercase b ≡ true → is_plain b ≡ true
letter_plain b h = grind (arith, nat_tests)

name_byte_plain : (b : ℕ) → is_name_byte b ≡ true → is_plain b ≡ true
name_byte_plain b h = grind (arith, nat_tests)

name_plain : (name : List ℕ) → is_name name ≡ true → list_all is_plain name ≡ true
name_plain [] h = refl
name_plain (b ∷ bs) h =
    let first = and_parts _ _ h in
    let others = and_parts _ _ first.1 in
    and_from (is_plain b) (list_all is_plain bs) (letter_plain b first.0) (all-weaker is_name_byte is_plain name_byte_plain bs others.1)

some_letter : (name : List ℕ) → is_name name ≡ true → 0 < length name
some_letter [] h = cc
some_letter (b ∷ bs) h = omega arith

pub name_word : (name : List ℕ) → is_name name ≡ true → IsWord name
name_word name h = record { some = some_letter name h; whole = all-weaker is_plain is_word_byte plain_in_words name (name_plain name h) }

pub side_read : (x : Side) → side_in (side_text x) ≡ Ok x
side_read A = refl
side_read B = refl

pub side_word_is : (x : Side) → IsWord (side_text x)
side_word_is A = record { some = omega arith; whole = refl }
side_word_is B = record { some = omega arith; whole = refl }

pub answer_read : (b : Bool) → answer_of (answer_text b) ≡ Ok b
answer_read true = refl
answer_read false = refl

pub answer_word : (b : Bool) → IsWord (answer_text b)
answer_word true = record { some = omega arith; whole = refl }
answer_word false = record { some = omega arith; whole = refl }

-- an end as it is printed
abbrev pub named_end_text : NamedEnd → List ℕ
named_end_text end = side_text end.side ++ (codes "." ++ end.name)

end_with_read : (x : Side) (name : List ℕ) → is_name name ≡ true → end_of (side_text x ++ (codes "." ++ name)) ≡ Ok (record { side = x; name = name })
end_with_read A name h = ap (λ r. r >>= λ name. Ok (record { side = A; name = name })) (name_read name h)
end_with_read B name h = ap (λ r. r >>= λ name. Ok (record { side = B; name = name })) (name_read name h)

pub end_read : (end : NamedEnd) → is_name end.name ≡ true → end_of (named_end_text end) ≡ Ok end
end_read end h = end_with_read end.side end.name h

end_with_word : (x : Side) (name : List ℕ) → is_name name ≡ true → IsWord (side_text x ++ (codes "." ++ name))
end_with_word A name h = record { some = omega arith; whole = (name_word name h).whole }
end_with_word B name h = record { some = omega arith; whole = (name_word name h).whole }

pub end_word : (end : NamedEnd) → is_name end.name ≡ true → IsWord (named_end_text end)
end_word end h = end_with_word end.side end.name h
