-- What was said, said again on a scene with the same settings, makes the same scene.
use Rattle.std.proofs.Common.{◌≡◌, ◌∙◌, ℕ, ◌+◌, ◌<◌, ◌≤◌, Bool, true, false, List, [], ◌∷◌, ◌++◌, length, take, drop, map, Result, Ok, Some, cond, refl, ap, sym, subst, append_assoc, arith}
use Rattle.std.specs.Prelude.{nat_lt, codes, slice_index_or, unwrap_or}
use Rattle.std.specs.Str.{bytes_eq}
use Rattle.std.specs.Fmt.{decimal}
use Rattle.std.proofs.lemmas.Bool.{ltb-true, ltb-false, le-ltb}
use Rattle.std.proofs.lemmas.List.{length-append, get_or_append_left, get_or_push, take_at, drop_at}
use Rattle.std.proofs.lemmas.List.Sums.{passes_at_first}
use Rattle.std.proofs.lemmas.Slice.Eq.{bytes_eq-Decides}
use Rattle.scene_text.specs.declared.faults.LineKind.{LineKind}
use Rattle.scene_text.specs.declared.limits.TheConstants.{MOST_NAMES, MOST_EVENT_LINES, MOST_PAYLOAD_BYTES, MOST_PUMP_STEPS, MOST_READ_BYTES}
use Rattle.scene_text.specs.declared.shapes.Shape.{Shape}
use Rattle.scene_text.specs.declared.shapes.Shape.TheVariants.{Name, Count, EndBytes, EndNumber, NameSide, SlotSide}
use Rattle.scene_text.specs.Words.{◌>>=◌, NamedEnd, words_of, is_name, number_in, side_in, runs_of, bytes_in}
use Rattle.scene_text.specs.Scenes.{PlainScene, socket_of, mentioned, within_limits}
use Rattle.scene_text.specs.Shapes.{Values, no_values, read_values}
use Rattle.scene_text.specs.Commands.{shape_of, names_after, number_named, says, row_of}
use Rattle.scene_text.specs.Settings.{PlainDraft, with_scene, set_said}
use Rattle.scene_text.specs.Grammar.{is_printable, limited, line_done, after_line, after_lines}
use Rattle.scene_text.specs.Spelling.{side_text, bytes_text, name_text, payload_part}
use Rattle.scene_text.specs.Printing.{what_line}
use Rattle.scene_text.proofs.Mentions.{socket_within, socket_below}
use Rattle.scene_text.proofs.ReadBack.Splits.{Each, all-append, IsWord, word_printable, last_word, next_word}
use Rattle.scene_text.proofs.ReadBack.Digits.{in_range_read, number_word}
use Rattle.scene_text.proofs.ReadBack.ByteRuns.{bytes_back, bytes_read, bytes_word}
use Rattle.scene_text.proofs.ReadBack.Tokens.{name_read, name_word, side_read, side_word_is, named_end_text, end_read, end_word}
use Rattle.scene_text.proofs.ReadBack.LineTexts.{IsPrintable, joined, read_by_words, then_lines}
use Rattle.scene_text.proofs.ReadBack.Sayings.{Saying, Body, with_body, line_of, said, says_all, IsShaped, IsSayable, IsWithin, Begins, all_names, all_payload, made, within_before}
use Rattle.scene_text.proofs.ReadBack.ByWord.{word_of, values_text, line_spelled, word_found, first_word, sets_nothing, says_something}

-- a name that is mentioned stands at its number, then and in all that follows
found_name : (names : List (List ℕ)) (name : List ℕ) → socket_of names name < length names → slice_index_or names (socket_of names name) [] ≡ name
found_name names name below = sym ((bytes_eq-Decides name (slice_index_or names (socket_of names name) [])).0 (passes_at_first (bytes_eq name) names [] below))

there : (names : List (List ℕ)) (name : List ℕ) → slice_index_or (mentioned names name) (socket_of names name) [] ≡ name
there names name =
    let within = socket_within names name in
    let by : (t : Bool) → nat_lt (socket_of names name) (length names) ≡ t → slice_index_or (cond t names (names ++ name ∷ [])) (socket_of names name) [] ≡ name = λ t. elim t as (λ t. nat_lt (socket_of names name) (length names) ≡ t → slice_index_or (cond t names (names ++ name ∷ [])) (socket_of names name) [] ≡ name) [
      | true ↦ λ e. found_name names name (ltb-true (socket_of names name) (length names) e)
      | false ↦ λ e. let past = ltb-false (socket_of names name) (length names) e in get_or_push names name [] (socket_of names name) (omega arith)
    ] in
    by (nat_lt (socket_of names name) (length names)) refl

name_stands : (names all : List (List ℕ)) (name : List ℕ) → Begins (mentioned names name) all → name_text all (socket_of names name) ≡ name
name_stands names all name p =
    ap (λ l. slice_index_or l (socket_of names name) []) p.1
    ∙ get_or_append_left (mentioned names name) p.0 [] (socket_of names name) (socket_below names name)
    ∙ there names name

-- the bytes of a write lie where its event says, then and in all that follows
bytes_stand : (payload bytes all : List ℕ) → Begins (payload ++ bytes) all → payload_part all (length payload) (length bytes) ≡ bytes
bytes_stand payload bytes all p =
    ap (λ l. take (length bytes) (drop (length payload) l)) (p.1 ∙ append_assoc payload bytes p.0)
    ∙ ap (take (length bytes)) (drop_at payload (bytes ++ p.0) (length payload) refl)
    ∙ take_at bytes p.0 (length bytes) refl

-- the name that values name
abbrev pub name_in : Values → List ℕ
name_in v = unwrap_or v.name []

-- how it is spelled
abbrev pub spelled : Saying → List ℕ
spelled s = word_of s.command ++ values_text (shape_of s.command) s.values (name_in s.values) s.values.bytes

-- the name and the bytes stand where the line says
module _ (names all : List (List ℕ)) (payload bytes : List ℕ) where
  abbrev Standing : Shape → Values → Type 0
  Standing shape v = Begins (names_after v.name names) all → Begins (payload ++ v.bytes) bytes → values_text shape v (name_text all (number_named v.name names)) (payload_part bytes (length payload) (length v.bytes)) ≡ values_text shape v (name_in v) v.bytes

  values_stand : (shape : Shape) (v : Values) → IsShaped shape v → Standing shape v
  values_stand Name v h = subst (Standing Name) h.2 (λ p q. ap (λ t. codes " " ++ t) (name_stands names all h.0 p))
  values_stand Count v h = subst (Standing Count) h.3 (λ p q. refl)
  values_stand EndBytes v h = subst (Standing EndBytes) h.4 (λ p q.
      ap (λ t. codes " " ++ ((side_text h.0.side ++ (codes "." ++ t)) ++ (codes " " ++ bytes_text (payload_part bytes (length payload) (length h.2))))) (name_stands names all h.0.name p)
      ∙ ap (λ t. codes " " ++ ((side_text h.0.side ++ (codes "." ++ h.0.name)) ++ (codes " " ++ bytes_text t))) (bytes_stand payload h.2 bytes q))
  values_stand EndNumber v h = subst (Standing EndNumber) h.4 (λ p q. ap (λ t. codes " " ++ ((side_text h.0.side ++ (codes "." ++ t)) ++ (codes " " ++ decimal h.2))) (name_stands names all h.0.name p))
  values_stand NameSide v h = subst (Standing NameSide) h.3 (λ p q. ap (λ t. codes " " ++ (t ++ (codes " " ++ side_text h.2))) (name_stands names all h.0 p))
  values_stand SlotSide v h = subst (Standing SlotSide) h.4 (λ p q. refl)

-- what is done at the lines is printed as what was said
pub lines_are : (ss : List Saying) (b after : Body) → Each IsSayable ss → says_all ss b ≡ after → map (λ line. what_line after.names after.payload line.what) (made ss b) ≡ map spelled ss
lines_are [] b after h e = refl
lines_are (s ∷ ss) b after h e =
    let v = s.values in
    let first : what_line after.names after.payload (line_of s b).what ≡ spelled s =
    line_spelled s.command v (number_named v.name b.names) (length b.payload) after.names after.payload
    ∙ ap (λ t. word_of s.command ++ t) (values_stand b.names after.names b.payload after.payload (shape_of s.command) v h.0
    (subst (λ (c : Body). Begins (names_after v.name b.names) c.names) e (all_names ss (said s b)))
    (subst (λ (c : Body). Begins (b.payload ++ v.bytes) c.payload) e (all_payload ss (said s b)))) in
    ap (λ l. l ∷ map (λ line. what_line after.names after.payload line.what) (made ss (said s b))) first
    ∙ ap (λ more. spelled s ∷ more) (lines_are ss (said s b) after h.1 e)

-- the bytes of one line are few
few_bytes : (payload bytes : List ℕ) → length (payload ++ bytes) ≤ MOST_PAYLOAD_BYTES → length bytes ≤ MOST_PAYLOAD_BYTES
few_bytes payload bytes h = omega (arith, length-append payload bytes)

slot_word : (slot : ℕ) → (1 ≤ slot) × (slot ≤ 1) → IsWord (decimal slot)
slot_word slot h = let few = h.1 in number_word slot (omega arith)

sent_word : (payload bytes : List ℕ) → Each (λ b. b < 256) bytes → length (payload ++ bytes) ≤ MOST_PAYLOAD_BYTES → IsWord (bytes_text bytes)
sent_word payload bytes h few = let short = few_bytes payload bytes few in bytes_word bytes (omega arith) h

printed_end : (end : NamedEnd) (rest : List ℕ) → is_name end.name ≡ true → IsWord rest → IsPrintable (named_end_text end ++ (codes " " ++ rest))
printed_end end rest h word = joined (named_end_text end) rest (word_printable (named_end_text end) (end_word end h)) (word_printable rest word)

-- a word and the one or two words behind it
one_behind : (word first : List ℕ) → IsWord word → IsWord first → words_of (word ++ (codes " " ++ first)) ≡ word ∷ first ∷ []
one_behind word first h k = next_word word h first ∙ ap (λ more. word ∷ more) (last_word first k)

two_behind : (word first second : List ℕ) → IsWord word → IsWord first → IsWord second → words_of (word ++ (codes " " ++ (first ++ (codes " " ++ second)))) ≡ word ∷ first ∷ second ∷ []
two_behind word first second h k l =
    next_word word h (first ++ (codes " " ++ second))
    ∙ ap (λ more. word ∷ more) (next_word first k second)
    ∙ ap (λ more. word ∷ first ∷ more) (last_word second l)

-- a word and values behind it: they are printable, they are the line's words, and these are read as the values
pub record IsSpelled (shape : Shape) (links : ℕ) (word : List ℕ) (v : Values) : Type 0 where
  pub words : List (List ℕ)
  pub printable : IsPrintable (values_text shape v (name_in v) v.bytes)
  pub cut : words_of (word ++ values_text shape v (name_in v) v.bytes) ≡ word ∷ words
  pub read : read_values shape links words ≡ Ok v

module _ (links : ℕ) (one : links ≡ 1) (word : List ℕ) (first : IsWord word) (payload : List ℕ) where
  slot_read : (slot : ℕ) → 1 ≤ slot → slot ≤ 1 → number_in 1 links (decimal slot) ≡ Ok slot
  slot_read slot low high = in_range_read slot (omega arith) 1 links low (omega arith)

  -- the values of a line whose payload is within its limit
  abbrev Short : Shape → Values → Type 0
  Short shape v = length (payload ++ v.bytes) ≤ MOST_PAYLOAD_BYTES → IsSpelled shape links word v

  pub values_spelled : (shape : Shape) (v : Values) → IsShaped shape v → Short shape v
  values_spelled Name v h = subst (Short Name) h.2 (λ short. record {
    words = h.0 ∷ [];
    printable = word_printable h.0 (name_word h.0 h.1);
    cut = one_behind word h.0 first (name_word h.0 h.1);
    read = ap (λ r. r >>= λ name. let found : Result Values LineKind = Ok (record no_values { name = Some name }) in found) (name_read h.0 h.1);
  })
  values_spelled Count v h = subst (Short Count) h.3 (λ short. let few = h.2 in record {
    words = decimal h.0 ∷ [];
    printable = word_printable (decimal h.0) (number_word h.0 (omega arith));
    cut = one_behind word (decimal h.0) first (number_word h.0 (omega arith));
    read = ap (λ r. r >>= λ count. let found : Result Values LineKind = Ok (record no_values { number = count }) in found) (in_range_read h.0 (omega arith) 1 MOST_PUMP_STEPS h.1 h.2);
  })
  values_spelled EndBytes v h = subst (Short EndBytes) h.4 (λ short. let few = few_bytes payload h.2 short in record {
    words = named_end_text h.0 ∷ bytes_text h.2 ∷ [];
    printable = printed_end h.0 (bytes_text h.2) h.1 (sent_word payload h.2 h.3 short);
    cut = two_behind word (named_end_text h.0) (bytes_text h.2) first (end_word h.0 h.1) (sent_word payload h.2 h.3 short);
    read =
        ap (λ r. r >>= λ end. runs_of (bytes_text h.2) >>= λ runs. let found : Result Values LineKind = Ok (record no_values { name = Some end.name; side = end.side; bytes = bytes_in runs }) in found) (end_read h.0 h.1)
        ∙ ap (λ r. r >>= λ runs. let found : Result Values LineKind = Ok (record no_values { name = Some h.0.name; side = h.0.side; bytes = bytes_in runs }) in found) (bytes_read h.2 (omega arith) h.3)
        ∙ ap (λ bs. let found : Result Values LineKind = Ok (record no_values { name = Some h.0.name; side = h.0.side; bytes = bs }) in found) (bytes_back h.2);
  })
  values_spelled EndNumber v h = subst (Short EndNumber) h.4 (λ short. let few = h.3 in record {
    words = named_end_text h.0 ∷ decimal h.2 ∷ [];
    printable = printed_end h.0 (decimal h.2) h.1 (number_word h.2 (omega arith));
    cut = two_behind word (named_end_text h.0) (decimal h.2) first (end_word h.0 h.1) (number_word h.2 (omega arith));
    read =
        ap (λ r. r >>= λ end. number_in 0 MOST_READ_BYTES (decimal h.2) >>= λ len. let found : Result Values LineKind = Ok (record no_values { name = Some end.name; side = end.side; number = len }) in found) (end_read h.0 h.1)
        ∙ ap (λ r. r >>= λ len. let found : Result Values LineKind = Ok (record no_values { name = Some h.0.name; side = h.0.side; number = len }) in found) (in_range_read h.2 (omega arith) 0 MOST_READ_BYTES (omega arith) h.3);
  })
  values_spelled NameSide v h = subst (Short NameSide) h.3 (λ short. record {
    words = h.0 ∷ side_text h.2 ∷ [];
    printable = joined h.0 (side_text h.2) (word_printable h.0 (name_word h.0 h.1)) (word_printable (side_text h.2) (side_word_is h.2));
    cut = two_behind word h.0 (side_text h.2) first (name_word h.0 h.1) (side_word_is h.2);
    read =
        ap (λ r. r >>= λ name. side_in (side_text h.2) >>= λ dir. let found : Result Values LineKind = Ok (record no_values { name = Some name; side = dir }) in found) (name_read h.0 h.1)
        ∙ ap (λ r. r >>= λ dir. let found : Result Values LineKind = Ok (record no_values { name = Some h.0; side = dir }) in found) (side_read h.2);
  })
  values_spelled SlotSide v h = subst (Short SlotSide) h.4 (λ short. record {
    words = decimal h.0 ∷ side_text h.3 ∷ [];
    printable = joined (decimal h.0) (side_text h.3) (word_printable (decimal h.0) (slot_word h.0 (h.1, h.2))) (word_printable (side_text h.3) (side_word_is h.3));
    cut = two_behind word (decimal h.0) (side_text h.3) first (slot_word h.0 (h.1, h.2)) (side_word_is h.3);
    read =
        ap (λ r. r >>= λ slot. side_in (side_text h.3) >>= λ dir. let found : Result Values LineKind = Ok (record no_values { side = dir; slot = slot }) in found) (slot_read h.0 h.1 h.2)
        ∙ ap (λ r. r >>= λ dir. let found : Result Values LineKind = Ok (record no_values { side = dir; slot = h.0 }) in found) (side_read h.3);
  })

spelled_values : (links : ℕ) → links ≡ 1 → (s : Saying) (b : Body) → IsSayable s → IsWithin (said s b) → IsSpelled (shape_of s.command) links (word_of s.command) s.values
spelled_values links one s b h w = values_spelled links one (word_of s.command) (first_word s.command) b.payload (shape_of s.command) s.values h w.payload

line_printable : (s : Saying) (b : Body) → IsSayable s → IsWithin (said s b) → IsPrintable (spelled s)
line_printable s b h w =
    all-append is_printable (word_of s.command) (values_text (shape_of s.command) s.values (name_in s.values) s.values.bytes) (word_printable (word_of s.command) (first_word s.command)) (spelled_values 1 refl s b h w).printable

pub all_printable : (ss : List Saying) (b : Body) → Each IsSayable ss → IsWithin (says_all ss b) → Each IsPrintable (map spelled ss)
all_printable [] b h w = tt
all_printable (s ∷ ss) b h w = (line_printable s b h.0 (within_before ss (said s b) w), all_printable ss (said s b) h.1 w)

module _ (base : PlainScene) (one : base.setup.links ≡ 1) (named : List ℕ) where
  -- the draft that holds these lines
  abbrev pub drafted : Body → PlainDraft
  drafted b = record { scene = with_body base b; named = named }

  within : (b : Body) → IsWithin b → within_limits (with_body base b) ≡ Ok (with_body base b)
  within b h = rw (le-ltb MOST_NAMES (length b.names) h.names, le-ltb MOST_EVENT_LINES (length b.lines) h.lines, le-ltb MOST_PAYLOAD_BYTES (length b.payload) h.payload) refl

  -- a line that was said, said again
  said_read : (s : Saying) (b : Body) → IsSayable s → IsWithin (said s b) → after_line (spelled s) (drafted b) ≡ Ok (drafted (said s b))
  said_read s b h w =
      let v = s.values in
      let scene = with_body base b in
      let values = spelled_values base.setup.links one s b h w in
      read_by_words (spelled s) (word_of s.command ∷ values.words) (drafted b) (says_something s.command (values_text (shape_of s.command) v (name_in v) v.bytes)) (line_printable s b h w) values.cut
      ∙ ap (λ t. cond t (set_said values.words (drafted b)) (with_scene (drafted b) (line_done (word_of s.command) values.words scene))) (sets_nothing s.command)
      ∙ ap (λ r. with_scene (drafted b) (limited (r >>= λ command. row_of command values.words scene))) (word_found s.command)
      ∙ ap (λ r. with_scene (drafted b) (limited (r >>= λ v. let found : Result PlainScene LineKind = Ok (says s.command v scene) in found))) values.read
      ∙ ap (with_scene (drafted b)) (within (said s b) w)

  pub all_said : (ss : List Saying) (b : Body) (n : ℕ) → Each IsSayable ss → IsWithin (says_all ss b) → after_lines n (map spelled ss) (drafted b) ≡ Ok (drafted (says_all ss b))
  all_said [] b n h w = refl
  all_said (s ∷ ss) b n h w =
      then_lines n (spelled s) (map spelled ss) (drafted b) (drafted (said s b)) (said_read s b h.0 (within_before ss (said s b) w))
      ∙ all_said ss (said s b) (n + 1) h.1 w
