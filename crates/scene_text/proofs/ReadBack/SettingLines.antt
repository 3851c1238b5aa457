-- The settings that are printed are read as the same settings.
use Rattle.std.proofs.Common.{◌≡◌, ◌∙◌, ℕ, ◌+◌, Bool, true, false, List, [], ◌∷◌, ◌++◌, length, map, Ok, Err, cond, refl, ap, arith}
use Rattle.std.specs.Prelude.{◌==◌, ◌&&◌, not, codes}
use Rattle.std.specs.List.{list_any}
use Rattle.std.proofs.lemmas.Bool.{and_parts, not-true}
use Rattle.smc_num.specs.declared.Side.{Side}
use Rattle.smc_num.specs.declared.Side.TheVariants.{A, B}
use Rattle.pipe_model.specs.declared.setup.Setup.{Setup}
use Rattle.pipe_model.specs.declared.setup.Room.{Room}
use Rattle.scene_text.specs.declared.faults.LineKind.TheVariants as kinds
use Rattle.scene_text.specs.declared.faults.LineFault.TheVariants.{Bad}
use Rattle.scene_text.specs.declared.limits.TheConstants.{MOST_SIZE_CODE, MOST_RMBS, MOST_ELEMENTS, MOST_DEPTH, MOST_NUMBER, MOST_ENTRIES, MOST_BYTES}
use Rattle.scene_text.specs.declared.print.SettingLine.{SettingLine}
use Rattle.scene_text.specs.declared.print.SettingLine.TheVariants.{OfSide as at, OfBoth as common}
use Rattle.scene_text.specs.declared.settings.SideSetting.{SideSetting}
use Rattle.scene_text.specs.declared.settings.SideSetting.TheVariants.{Capable, Subnet, Rmbs, Elements}
use Rattle.scene_text.specs.declared.settings.SharedSetting.{SharedSetting}
use Rattle.scene_text.specs.declared.settings.SharedSetting.TheVariants.{Size, Depth, Number, Entries, Bytes}
use Rattle.scene_text.specs.declared.settings.SettingName.TheVariants.{OfSide, OfBoth}
use Rattle.scene_text.specs.Words.{◌>>=◌, words_of, side_in}
use Rattle.scene_text.specs.Scenes.{PlainScene, empty_scene, IsInRange}
use Rattle.scene_text.specs.Settings.{setting_named, side_place, shared_place, pair_with, with_setup, with_room, side_value, shared_value, PlainDraft, empty_draft, or_bad, with_scene, before_lines, named_once, set_row}
use Rattle.scene_text.specs.Grammar.{after_line, after_lines}
use Rattle.scene_text.specs.Spelling.{side_text}
use Rattle.scene_text.specs.Printing.{side_word, shared_word, part_of, side_value_text, shared_value_text, side_line, shared_line, setting_line, all_settings}
use Rattle.scene_text.proofs.Ranges.{IsFormed}
use Rattle.scene_text.proofs.ReadBack.Splits.{Each, IsWord, word_printable, last_word, next_word}
use Rattle.scene_text.proofs.ReadBack.Digits.{in_range_read, number_word}
use Rattle.scene_text.proofs.ReadBack.Addresses.{subnet_read, subnet_word}
use Rattle.scene_text.proofs.ReadBack.Tokens.{side_read, side_word_is, answer_read, answer_word}
use Rattle.scene_text.proofs.ReadBack.LineTexts.{IsPrintable, joined, read_by_words, then_lines}

setting_word : (setting : SideSetting) → IsWord (side_word setting)
setting_word Capable = record { some = omega arith; whole = refl }
setting_word Subnet = record { some = omega arith; whole = refl }
setting_word Rmbs = record { some = omega arith; whole = refl }
setting_word Elements = record { some = omega arith; whole = refl }

common_word : (setting : SharedSetting) → IsWord (shared_word setting)
common_word Size = record { some = omega arith; whole = refl }
common_word Depth = record { some = omega arith; whole = refl }
common_word Number = record { some = omega arith; whole = refl }
common_word Entries = record { some = omega arith; whole = refl }
common_word Bytes = record { some = omega arith; whole = refl }

setting_found : (setting : SideSetting) → setting_named (side_word setting) ≡ Ok (OfSide setting)
setting_found Capable = refl
setting_found Subnet = refl
setting_found Rmbs = refl
setting_found Elements = refl

common_found : (setting : SharedSetting) → setting_named (shared_word setting) ≡ Ok (OfBoth setting)
common_found Size = refl
common_found Depth = refl
common_found Number = refl
common_found Entries = refl
common_found Bytes = refl

set_word : IsWord (codes "set")
set_word = record { some = omega arith; whole = refl }

module _ (value : List ℕ) (word : IsWord value) where
  side_words : (setting : SideSetting) (x : Side) → words_of (codes "set " ++ (side_word setting ++ (codes " " ++ (side_text x ++ (codes " " ++ value))))) ≡ codes "set" ∷ side_word setting ∷ side_text x ∷ value ∷ []
  side_words setting x =
      next_word (codes "set") set_word (side_word setting ++ (codes " " ++ (side_text x ++ (codes " " ++ value))))
      ∙ ap (λ more. codes "set" ∷ more) (next_word (side_word setting) (setting_word setting) (side_text x ++ (codes " " ++ value)))
      ∙ ap (λ more. codes "set" ∷ side_word setting ∷ more) (next_word (side_text x) (side_word_is x) value)
      ∙ ap (λ more. codes "set" ∷ side_word setting ∷ side_text x ∷ more) (last_word value word)

  pub side_printable : (setting : SideSetting) (x : Side) → IsPrintable (codes "set " ++ (side_word setting ++ (codes " " ++ (side_text x ++ (codes " " ++ value)))))
  side_printable setting x = joined (side_word setting) (side_text x ++ (codes " " ++ value)) (word_printable (side_word setting) (setting_word setting)) (joined (side_text x) value (word_printable (side_text x) (side_word_is x)) (word_printable value word))

  shared_words : (setting : SharedSetting) → words_of (codes "set " ++ (shared_word setting ++ (codes " " ++ value))) ≡ codes "set" ∷ shared_word setting ∷ value ∷ []
  shared_words setting =
      next_word (codes "set") set_word (shared_word setting ++ (codes " " ++ value))
      ∙ ap (λ more. codes "set" ∷ more) (next_word (shared_word setting) (common_word setting) value)
      ∙ ap (λ more. codes "set" ∷ shared_word setting ∷ more) (last_word value word)

  pub shared_printable : (setting : SharedSetting) → IsPrintable (codes "set " ++ (shared_word setting ++ (codes " " ++ value)))
  shared_printable setting = joined (shared_word setting) value (word_printable (shared_word setting) (common_word setting)) (word_printable value word)

  -- a setting is read where it stands before all lines and was not named before
  module _ (scene after : PlainScene) (named : List ℕ) (front : (length scene.lines == 0) ≡ true) where
    abbrev draft : PlainDraft
    draft = record { scene = scene; named = named }

    noted : (place : ℕ) → list_any (λ p. p == place) named ≡ false → named_once place draft ≡ Ok (record { scene = scene; named = named ++ place ∷ [] })
    noted place new = ap (λ t. cond t (Err (Bad kinds.Again)) (Ok (record { scene = scene; named = named ++ place ∷ [] }))) new

    first : before_lines draft ≡ Ok tt
    first = ap (λ t. cond t (Ok tt) (Err (Bad kinds.Order))) front

    pub side_is_set : (setting : SideSetting) (x : Side) → list_any (λ p. p == side_place setting x) named ≡ false → side_value setting x value scene ≡ Ok after → after_line (codes "set " ++ (side_word setting ++ (codes " " ++ (side_text x ++ (codes " " ++ value))))) draft ≡ Ok (record { scene = after; named = named ++ side_place setting x ∷ [] })
    side_is_set setting x new e =
        read_by_words (codes "set " ++ (side_word setting ++ (codes " " ++ (side_text x ++ (codes " " ++ value))))) _ draft refl (side_printable setting x) (side_words setting x)
        ∙ ap (λ r. or_bad r >>= λ s. set_row s (side_text x ∷ value ∷ []) draft) (setting_found setting)
        ∙ ap (λ r. r >>= λ t. or_bad (side_in (side_text x)) >>= λ y. named_once (side_place setting y) draft >>= λ d. with_scene d (or_bad (side_value setting y value d.scene))) first
        ∙ ap (λ r. or_bad r >>= λ y. named_once (side_place setting y) draft >>= λ d. with_scene d (or_bad (side_value setting y value d.scene))) (side_read x)
        ∙ ap (λ r. r >>= λ d. with_scene d (or_bad (side_value setting x value d.scene))) (noted (side_place setting x) new)
        ∙ ap (λ r. with_scene (record { scene = scene; named = named ++ side_place setting x ∷ [] }) (or_bad r)) e

    pub shared_is_set : (setting : SharedSetting) → list_any (λ p. p == shared_place setting) named ≡ false → shared_value setting value scene ≡ Ok after → after_line (codes "set " ++ (shared_word setting ++ (codes " " ++ value))) draft ≡ Ok (record { scene = after; named = named ++ shared_place setting ∷ [] })
    shared_is_set setting new e =
        read_by_words (codes "set " ++ (shared_word setting ++ (codes " " ++ value))) _ draft refl (shared_printable setting) (shared_words setting)
        ∙ ap (λ r. or_bad r >>= λ s. set_row s (value ∷ []) draft) (common_found setting)
        ∙ ap (λ r. r >>= λ t. named_once (shared_place setting) draft >>= λ d. with_scene d (or_bad (shared_value setting value d.scene))) first
        ∙ ap (λ r. r >>= λ d. with_scene d (or_bad (shared_value setting value d.scene))) (noted (shared_place setting) new)
        ∙ ap (λ r. with_scene (record { scene = scene; named = named ++ shared_place setting ∷ [] }) (or_bad r)) e

-- a scene in which a setting is as in this setup and room
abbrev side_set : SideSetting → Side → Setup → PlainScene → PlainScene
side_set Capable x setup scene = with_setup (record scene.setup { capable = pair_with false x (part_of false setup.capable x) scene.setup.capable }) scene
side_set Subnet x setup scene = with_setup (record scene.setup { subnet = pair_with (0, 0) x (part_of (0, 0) setup.subnet x) scene.setup.subnet }) scene
side_set Rmbs x setup scene = with_setup (record scene.setup { rmbs = pair_with 0 x (part_of 0 setup.rmbs x) scene.setup.rmbs }) scene
side_set Elements x setup scene = with_setup (record scene.setup { elements = pair_with 0 x (part_of 0 setup.elements x) scene.setup.elements }) scene

abbrev shared_set : SharedSetting → Setup → Room → PlainScene → PlainScene
shared_set Size setup room scene = with_setup (record scene.setup { size_code = setup.size_code }) scene
shared_set Depth setup room scene = with_setup (record scene.setup { depth = setup.depth }) scene
shared_set Number setup room scene = with_setup (record scene.setup { number = setup.number }) scene
shared_set Entries setup room scene = with_room (record scene.room { entries = room.entries }) scene
shared_set Bytes setup room scene = with_room (record scene.room { bytes = room.bytes }) scene

module _ (setup : Setup) (room : Room) (ranged : IsInRange setup room) (formed : IsFormed setup) where
  value_read : (setting : SideSetting) (x : Side) (scene : PlainScene) → side_value setting x (side_value_text setting x setup) scene ≡ Ok (side_set setting x setup scene)
  value_read Capable x scene = ap (λ r. r >>= λ answer. Ok (with_setup (record scene.setup { capable = pair_with false x answer scene.setup.capable }) scene)) (answer_read (part_of false setup.capable x))
  value_read Subnet x scene = ap (λ r. r >>= λ net. Ok (with_setup (record scene.setup { subnet = pair_with (0, 0) x net scene.setup.subnet }) scene)) (subnet_read (part_of (0, 0) setup.subnet x) (formed.addresses x) (ranged.subnet x))
  value_read Rmbs x scene = let is = ranged.rmbs x in ap (λ r. r >>= λ n. Ok (with_setup (record scene.setup { rmbs = pair_with 0 x n scene.setup.rmbs }) scene)) (in_range_read (part_of 0 setup.rmbs x) (omega arith) 1 MOST_RMBS is.0 is.1)
  value_read Elements x scene = let is = ranged.elements x in ap (λ r. r >>= λ n. Ok (with_setup (record scene.setup { elements = pair_with 0 x n scene.setup.elements }) scene)) (in_range_read (part_of 0 setup.elements x) (omega arith) 1 MOST_ELEMENTS is.0 is.1)

  value_word : (setting : SideSetting) (x : Side) → IsWord (side_value_text setting x setup)
  value_word Capable x = answer_word (part_of false setup.capable x)
  value_word Subnet x = subnet_word (part_of (0, 0) setup.subnet x) (formed.addresses x) (ranged.subnet x)
  value_word Rmbs x = let is = ranged.rmbs x in number_word (part_of 0 setup.rmbs x) (omega arith)
  value_word Elements x = let is = ranged.elements x in number_word (part_of 0 setup.elements x) (omega arith)

  common_read : (setting : SharedSetting) (scene : PlainScene) → shared_value setting (shared_value_text setting setup room) scene ≡ Ok (shared_set setting setup room scene)
  common_read Size scene = let few = ranged.size in ap (λ r. r >>= λ n. Ok (with_setup (record scene.setup { size_code = n }) scene)) (in_range_read setup.size_code (omega arith) 0 MOST_SIZE_CODE (omega arith) few)
  common_read Depth scene = let is = ranged.depth in ap (λ r. r >>= λ n. Ok (with_setup (record scene.setup { depth = n }) scene)) (in_range_read setup.depth (omega arith) 1 MOST_DEPTH is.0 is.1)
  common_read Number scene = let is = ranged.number in ap (λ r. r >>= λ n. Ok (with_setup (record scene.setup { number = n }) scene)) (in_range_read setup.number (omega arith) 1 MOST_NUMBER is.0 is.1)
  common_read Entries scene = let is = ranged.entries in ap (λ r. r >>= λ n. Ok (with_room (record scene.room { entries = n }) scene)) (in_range_read room.entries (omega arith) 1 MOST_ENTRIES is.0 is.1)
  common_read Bytes scene = let is = ranged.bytes in ap (λ r. r >>= λ n. Ok (with_room (record scene.room { bytes = n }) scene)) (in_range_read room.bytes (omega arith) 1 MOST_BYTES is.0 is.1)

  common_value_word : (setting : SharedSetting) → IsWord (shared_value_text setting setup room)
  common_value_word Size = let few = ranged.size in number_word setup.size_code (omega arith)
  common_value_word Depth = let is = ranged.depth in number_word setup.depth (omega arith)
  common_value_word Number = let is = ranged.number in number_word setup.number (omega arith)
  common_value_word Entries = let is = ranged.entries in number_word room.entries (omega arith)
  common_value_word Bytes = let is = ranged.bytes in number_word room.bytes (omega arith)

  of_side : (setting : SideSetting) (x : Side) (scene : PlainScene) (named : List ℕ) → (length scene.lines == 0) ≡ true → list_any (λ p. p == side_place setting x) named ≡ false → after_line (side_line setting x setup) (record { scene = scene; named = named }) ≡ Ok (record { scene = side_set setting x setup scene; named = named ++ side_place setting x ∷ [] })
  of_side setting x scene named front new = side_is_set (side_value_text setting x setup) (value_word setting x) scene (side_set setting x setup scene) named front setting x new (value_read setting x scene)

  of_both : (setting : SharedSetting) (scene : PlainScene) (named : List ℕ) → (length scene.lines == 0) ≡ true → list_any (λ p. p == shared_place setting) named ≡ false → after_line (shared_line setting setup room) (record { scene = scene; named = named }) ≡ Ok (record { scene = shared_set setting setup room scene; named = named ++ shared_place setting ∷ [] })
  of_both setting scene named front new = shared_is_set (shared_value_text setting setup room) (common_value_word setting) scene (shared_set setting setup room scene) named front setting new (common_read setting scene)

  -- the setup that the lines of the settings give: with one socket, as no name is mentioned yet
  abbrev pub set_setup : Setup
  set_setup = record {
    capable = part_of false setup.capable A ∷ part_of false setup.capable B ∷ [];
    subnet = part_of (0, 0) setup.subnet A ∷ part_of (0, 0) setup.subnet B ∷ [];
    links = 1;
    size_code = setup.size_code;
    rmbs = part_of 0 setup.rmbs A ∷ part_of 0 setup.rmbs B ∷ [];
    elements = part_of 0 setup.elements A ∷ part_of 0 setup.elements B ∷ [];
    depth = setup.depth;
    number = setup.number;
    sockets = 1;
  }

  -- the draft after the settings
  abbrev pub set_draft : PlainDraft
  set_draft = record { scene = record empty_scene { setup = set_setup; room = room }; named = 0 ∷ 1 ∷ 2 ∷ 3 ∷ 8 ∷ 4 ∷ 5 ∷ 6 ∷ 7 ∷ 9 ∷ 10 ∷ 11 ∷ 12 ∷ [] }

  abbrev place : SettingLine → ℕ
  place (at setting x) = side_place setting x
  place (common setting) = shared_place setting

  abbrev line : SettingLine → List ℕ
  line s = setting_line setup room s

  abbrev set : SettingLine → PlainScene → PlainScene
  set (at setting x) scene = side_set setting x setup scene
  set (common setting) scene = shared_set setting setup room scene

  no_line : (s : SettingLine) (scene : PlainScene) → (length scene.lines == 0) ≡ true → (length (set s scene).lines == 0) ≡ true
  no_line (at Capable x) scene h = h
  no_line (at Subnet x) scene h = h
  no_line (at Rmbs x) scene h = h
  no_line (at Elements x) scene h = h
  no_line (common Size) scene h = h
  no_line (common Depth) scene h = h
  no_line (common Number) scene h = h
  no_line (common Entries) scene h = h
  no_line (common Bytes) scene h = h

  one_set : (s : SettingLine) (scene : PlainScene) (named : List ℕ) → (length scene.lines == 0) ≡ true → list_any (λ p. p == place s) named ≡ false → after_line (line s) (record { scene = scene; named = named }) ≡ Ok (record { scene = set s scene; named = named ++ place s ∷ [] })
  one_set (at setting x) scene named front new = of_side setting x scene named front new
  one_set (common setting) scene named front new = of_both setting scene named front new

  -- none of them is named twice
  abbrev all_new : List SettingLine → List ℕ → Bool
  all_new [] named = true
  all_new (s ∷ ss) named = not (list_any (λ p. p == place s) named) && all_new ss (named ++ place s ∷ [])

  abbrev all_set : List SettingLine → PlainScene → PlainScene
  all_set [] scene = scene
  all_set (s ∷ ss) scene = all_set ss (set s scene)

  abbrev all_named : List SettingLine → List ℕ → List ℕ
  all_named [] named = named
  all_named (s ∷ ss) named = all_named ss (named ++ place s ∷ [])

  abbrev number_behind : List SettingLine → ℕ → ℕ
  number_behind [] n = n
  number_behind (s ∷ ss) n = number_behind ss (n + 1)

  all_read : (ss : List SettingLine) (scene : PlainScene) (named : List ℕ) (n : ℕ) (more : List (List ℕ)) → (length scene.lines == 0) ≡ true → all_new ss named ≡ true → after_lines n (map line ss ++ more) (record { scene = scene; named = named }) ≡ after_lines (number_behind ss n) more (record { scene = all_set ss scene; named = all_named ss named })
  all_read [] scene named n more front new = refl
  all_read (s ∷ ss) scene named n more front new =
      let both = and_parts (not (list_any (λ p. p == place s) named)) (all_new ss (named ++ place s ∷ [])) new in
      then_lines n (line s) (map line ss ++ more) (record { scene = scene; named = named }) (record { scene = set s scene; named = named ++ place s ∷ [] }) (one_set s scene named front (not-true _ both.0))
      ∙ all_read ss (set s scene) (named ++ place s ∷ []) (n + 1) more (no_line s scene front) both.1

  pub settings_read : (more : List (List ℕ)) → after_lines 1 (map line all_settings ++ more) empty_draft ≡ after_lines 14 more set_draft
  settings_read more = all_read all_settings empty_scene [] 1 more refl refl

  side_line_printable : (setting : SideSetting) (x : Side) → IsPrintable (side_line setting x setup)
  side_line_printable setting x = side_printable (side_value_text setting x setup) (value_word setting x) setting x

  shared_line_printable : (setting : SharedSetting) → IsPrintable (shared_line setting setup room)
  shared_line_printable setting = shared_printable (shared_value_text setting setup room) (common_value_word setting) setting

  one_printable : (s : SettingLine) → IsPrintable (line s)
  one_printable (at setting x) = side_line_printable setting x
  one_printable (common setting) = shared_line_printable setting

  pub settings_printable : (ss : List SettingLine) → Each IsPrintable (map line ss)
  settings_printable [] = tt
  settings_printable (s ∷ ss) = (one_printable s, settings_printable ss)

  -- with the scene's number of sockets it is the setup that was printed
  pub same_setup : record set_setup { sockets = setup.sockets } ≡ setup
  same_setup =
      let one = formed.links in
      rw (← formed.capable, ← formed.subnet, ← formed.rmbs, ← formed.elements, ← one) refl
