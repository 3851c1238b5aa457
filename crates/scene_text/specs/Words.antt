-- The words of a scene.
-- A reader learns here how a line is cut into words, and what a number, a name, an end and bytes are.
use Rattle.std.specs.Prelude.{◌≡◌, ℕ, ◌+◌, ◌*◌, ◌-◌, ◌^◌, ◌%◌, ◌==◌, ◌&&◌, ◌||◌, not, nat_lt, nat_le, Bool, true, false, List, [], ◌∷◌, length, filter, replicate, codes, Result, Ok, Err, if◌then◌else◌}
use Rattle.std.specs.List.{slice_split, list_all, flat_map}
use Rattle.std.specs.Char.{digit_value, is_ascii_lowercase, is_ascii_digit}
use Rattle.std.specs.Str.{bytes_eq}
use Rattle.smc_num.specs.declared.Side.{Side}
use Rattle.smc_num.specs.declared.Side.TheVariants.{A, B}
use Rattle.scene_text.specs.declared.faults.LineKind.{LineKind}
use Rattle.scene_text.specs.declared.faults.LineKind.TheVariants as kinds
use Rattle.scene_text.specs.declared.faults.LineFault.{LineFault}
use Rattle.scene_text.specs.declared.faults.LineFault.TheVariants.{NoMemory, Bad, Passes}
use Rattle.scene_text.specs.declared.words.NamedEnd.{NamedEnd as LentEnd}
use Rattle.scene_text.specs.declared.words.Run.{Run}
use Rattle.scene_text.specs.declared.limits.TheConstants.{MOST_DIGITS, MOST_NAME_BYTES, MOST_PREFIX_BITS}

-- goes on with a value; a fault stays
infixl 10 ◌>>=◌
abbrev pub ◌>>=◌ : {E X Y : Type 0} → Result X E → (X → Result Y E) → Result Y E
(Ok x) >>= f = f x
(Err e) >>= f = Err e

-- what was found, seen by view
abbrev pub map_ok : {E X Y : Type 0} → (X → Y) → Result X E → Result Y E
map_ok view (Ok x) = Ok (view x)
map_ok view (Err e) = Err e

-- what was read, seen by view, is what there is to read, unless memory ran out
abbrev pub Gives : {X Y : Type 0} → (X → Y) → Result X LineFault → Result Y LineKind → Type 0
Gives view (Ok x) read = read ≡ Ok (view x)
Gives view (Err NoMemory) read = Unit {0}
Gives view (Err (Bad kind)) read = read ≡ Err kind
Gives view (Err (Passes limit)) read = ⊥

-- the bytes of the texts that have a meaning of their own
abbrev pub space : ℕ
space = 32

abbrev pub star : ℕ
star = 42

abbrev pub comma : ℕ
comma = 44

abbrev pub point : ℕ
point = 46

abbrev pub slash : ℕ
slash = 47

abbrev pub underscore : ℕ
underscore = 95

-- the parts of a text between the bytes of one kind, one more than there are of these
abbrev pub parts : ℕ → List ℕ → List (List ℕ)
parts mark text = slice_split (λ b. b == mark) text

-- the words of a line: the parts between its spaces that have a byte
abbrev pub words_of : List ℕ → List (List ℕ)
words_of line = filter (λ word. nat_lt 0 (length word)) (parts space line)

-- the number that decimal digits spell behind those of n
abbrev pub digits_from : ℕ → List ℕ → Result ℕ LineKind
digits_from n [] = Ok n
digits_from n (b ∷ bs) = if nat_lt (digit_value b) 10 then digits_from (n * 10 + digit_value b) bs else Err kinds.Number

-- a number: decimal digits, at least one and not too many
abbrev pub number_of : List ℕ → Result ℕ LineKind
number_of word = if (length word == 0) || nat_lt MOST_DIGITS (length word) then Err kinds.Number else digits_from 0 word

-- a number from least to most
abbrev pub number_in : ℕ → ℕ → List ℕ → Result ℕ LineKind
number_in least most word = number_of word >>= λ n. if nat_le least n && nat_le n most then Ok n else Err kinds.Range

-- a byte that a name may have behind its first letter
abbrev pub is_name_byte : ℕ → Bool
is_name_byte b = is_ascii_lowercase b || (is_ascii_digit b || (b == underscore))

-- whether a word is a name: small letters, digits and underscores, not too many, first a letter
abbrev pub is_name : List ℕ → Bool
is_name [] = false
is_name (b ∷ bs) = is_ascii_lowercase b && (nat_lt (length bs) MOST_NAME_BYTES && list_all is_name_byte bs)

-- a name
abbrev pub name_of : List ℕ → Result (List ℕ) LineKind
name_of word = if is_name word then Ok word else Err kinds.Name

-- the side with this letter
abbrev pub side_of : ℕ → Result Side LineKind
side_of letter = if letter == 65 then Ok A else if letter == 66 then Ok B else Err kinds.Side

-- a side alone
abbrev pub side_in : List ℕ → Result Side LineKind
side_in [] = Err kinds.Side
side_in (letter ∷ []) = side_of letter
side_in (letter ∷ b ∷ bs) = Err kinds.Side

-- yes or no
abbrev pub answer_of : List ℕ → Result Bool LineKind
answer_of word = if bytes_eq word (codes "yes") then Ok true else if bytes_eq word (codes "no") then Ok false else Err kinds.Answer

-- one end of the socket with this name
pub record NamedEnd : Type 0 where
  pub side : Side
  pub name : List ℕ

-- the same of a name that lies in a line
abbrev pub named_end : LentEnd → NamedEnd
named_end end = record { side = end.side; name = end.name.now }

-- the end with this letter and name
abbrev pub end_with : ℕ → List ℕ → Result NamedEnd LineKind
end_with letter name = do
  side ← side_of letter
  name ← name_of name
  Ok (record { side = side; name = name })

-- an end: a side, a point and a name
abbrev pub end_of : List ℕ → Result NamedEnd LineKind
end_of [] = Err kinds.Side
end_of (letter ∷ []) = Err kinds.Side
end_of (letter ∷ b ∷ name) = if b == point then end_with letter name else Err kinds.Side

-- a byte in two hexadecimal digits, of either case
abbrev pub byte_of : ℕ → ℕ → Result ℕ LineKind
byte_of high low = if nat_lt (digit_value high) 16 && nat_lt (digit_value low) 16 then Ok (digit_value high * 16 + digit_value low) else Err kinds.Bytes

-- how often a byte comes: a number from 1
abbrev pub at_least_once : Result ℕ LineKind → Result ℕ LineKind
at_least_once (Ok n) = if n == 0 then Err kinds.Bytes else Ok n
at_least_once (Err kind) = Err kinds.Bytes

abbrev pub times_of : List ℕ → Result ℕ LineKind
times_of word = at_least_once (number_of word)

-- a byte, and how often it comes
abbrev pub run_with : ℕ → ℕ → List ℕ → Result Run LineKind
run_with high low times = do
  byte ← byte_of high low
  count ← times_of times
  Ok (record { byte = byte; count = count })

-- an item: a byte, or a byte, a star and how often it comes
abbrev pub run_of : List ℕ → Result Run LineKind
run_of [] = Err kinds.Bytes
run_of (high ∷ []) = Err kinds.Bytes
run_of (high ∷ low ∷ []) = byte_of high low >>= λ byte. Ok (record { byte = byte; count = 1 })
run_of (high ∷ low ∷ b ∷ times) = if b == star then run_with high low times else Err kinds.Bytes

-- the runs that items are, or the first fault
abbrev pub runs_from : List (List ℕ) → Result (List Run) LineKind
runs_from [] = Ok []
runs_from (item ∷ items) = do
  run ← run_of item
  runs ← runs_from items
  Ok (run ∷ runs)

-- bytes: items with commas between them, or a hyphen for none
abbrev pub runs_of : List ℕ → Result (List Run) LineKind
runs_of word = if bytes_eq word (codes "-") then Ok [] else runs_from (parts comma word)

-- the bytes of a run, and of runs
abbrev pub run_bytes : Run → List ℕ
run_bytes run = replicate run.count run.byte

abbrev pub bytes_in : List Run → List ℕ
bytes_in runs = flat_map run_bytes runs

-- whatever is wrong in a subnet is one fault
abbrev pub as_subnet : Result ℕ LineKind → Result ℕ LineKind
as_subnet (Ok n) = Ok n
as_subnet (Err kind) = Err kinds.Subnet

-- an address of four numbers, the first of which has the highest bits
abbrev pub address_with : List ℕ → List ℕ → List ℕ → List ℕ → Result ℕ LineKind
address_with a b c d = do
  a ← as_subnet (number_in 0 255 a)
  b ← as_subnet (number_in 0 255 b)
  c ← as_subnet (number_in 0 255 c)
  d ← as_subnet (number_in 0 255 d)
  Ok (((a * 256 + b) * 256 + c) * 256 + d)

abbrev pub address_in : List (List ℕ) → Result ℕ LineKind
address_in (a ∷ b ∷ c ∷ d ∷ []) = address_with a b c d
address_in _ = Err kinds.Subnet

-- an address: four numbers with points between them
abbrev pub address_of : List ℕ → Result ℕ LineKind
address_of word = address_in (parts point word)

-- whether an address has a bit behind its prefix
abbrev pub has_host_bits : ℕ → ℕ → Bool
has_host_bits address prefix = not (address % 2 ^ (MOST_PREFIX_BITS - prefix) == 0)

-- an address and the length of its prefix, which leaves no bit behind it
abbrev pub subnet_with : List ℕ → List ℕ → Result (ℕ × ℕ) LineKind
subnet_with address prefix = do
  address ← address_of address
  prefix ← as_subnet (number_in 0 MOST_PREFIX_BITS prefix)
  if has_host_bits address prefix then Err kinds.Subnet else Ok (address, prefix)

abbrev pub subnet_in : List (List ℕ) → Result (ℕ × ℕ) LineKind
subnet_in (address ∷ prefix ∷ []) = subnet_with address prefix
subnet_in _ = Err kinds.Subnet

-- a subnet: an address, a slash and the length of the prefix
abbrev pub subnet_of : List ℕ → Result (ℕ × ℕ) LineKind
subnet_of word = subnet_in (parts slash word)
