-- How the fields of messages are spelled.
-- A reader learns here how words, numbers, flags and lists stand together in the line of a message.
use Rattle.std.specs.Prelude.{ℕ, Bool, List, [], ◌∷◌, ◌++◌, codes, if◌then◌else◌}
use Rattle.std.specs.List.{flat_map}
use Rattle.std.specs.Fmt.{decimal}
use Rattle.smc_num.specs.declared.Cursor.{Cursor}

-- a field: its word, with the spaces around it, and a number
abbrev pub number_field : List ℕ → ℕ → List ℕ
number_field word number = word ++ decimal number

-- two number fields, one after the other
unfoldable pub two_numbers : List ℕ → ℕ → List ℕ → ℕ → List ℕ
two_numbers word number second_word second = number_field word number ++ number_field second_word second

-- a word that stands where its flag is set
abbrev pub flag_text : List ℕ → Bool → List ℕ
flag_text word on = if on then word else []

-- a word, and whether the message is a reply
unfoldable pub head_text : List ℕ → Bool → List ℕ
head_text word reply = word ++ flag_text (codes " reply") reply

-- whether the contact is the first of the two peers
abbrev pub contact_text : Bool → List ℕ
contact_text first = if first then codes " first" else codes " later"

-- a cursor: how often it has wrapped, and its count
unfoldable pub cursor_text : List ℕ → Cursor → List ℕ
cursor_text word c = number_field word c.wrap ++ number_field (codes "/") c.count

-- texts with a comma before each
abbrev pub with_commas : {X : Type 0} → (X → List ℕ) → List X → List ℕ
with_commas text xs = flat_map (λ x. codes "," ++ text x) xs

-- texts with commas between them; a hyphen for none
abbrev pub listed : {X : Type 0} → (X → List ℕ) → List X → List ℕ
listed text [] = codes "-"
listed text (x ∷ xs) = text x ++ with_commas text xs
