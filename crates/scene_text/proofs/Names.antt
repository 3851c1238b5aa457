-- Names are ASCII, so they are text.
use Rattle.std.proofs.Common.{◌≡◌, ℕ, ◌<◌, Bool, true, false, List, [], ◌∷◌, refl, arith}
use Rattle.std.specs.Prelude.{◌&&◌}
use Rattle.std.specs.List.{list_all}
use Rattle.std.specs.Char.{is_ascii_lowercase}
use Rattle.std.specs.Str.{IsUtf8, IsAscii}
use Rattle.std.proofs.lemmas.Bool.Decides.{nat_tests}
use Rattle.std.proofs.lemmas.Str.{IsUtf8-from_ascii}
use Rattle.std.proofs.lemmas.Str.Ascii.{IsAscii-nil, IsAscii-cons}
use Rattle.scene_text.specs.Words.{is_name, is_name_byte}

both : (a b : Bool) → (a && b) ≡ true → (a ≡ true) × (b ≡ true)
both true b e = (refl, e)
both false b e = cc

letter_is_ascii : (b : ℕ) → is_ascii_lowercase b ≡ true → b < 128
letter_is_ascii b h = grind (arith, nat_tests)

name_byte_is_ascii : (b : ℕ) → is_name_byte b ≡ true → b < 128
name_byte_is_ascii b h = grind (arith, nat_tests)

name_bytes_are_ascii : (bs : List ℕ) → list_all is_name_byte bs ≡ true → IsAscii bs
name_bytes_are_ascii [] h = IsAscii-nil
name_bytes_are_ascii (b ∷ bs) h =
    let each = both (is_name_byte b) (list_all is_name_byte bs) h in
    IsAscii-cons b bs (name_byte_is_ascii b each.0) (name_bytes_are_ascii bs each.1)

pub name_is_text : (word : List ℕ) → is_name word ≡ true → IsUtf8 word
name_is_text [] h = cc
name_is_text (b ∷ bs) h =
    let first = both _ _ h in
    let others = both _ _ first.1 in
    IsUtf8-from_ascii (b ∷ bs) (IsAscii-cons b bs (letter_is_ascii b first.0) (name_bytes_are_ascii bs others.1))
