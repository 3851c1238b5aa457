-- The printed text of a scene that was read is read as the same scene.
use Rattle.std.proofs.Common.{◌≡◌, ◌∙◌, ℕ, max, List, [], ◌∷◌, ◌++◌, length, map, Result, Ok, refl, ap, sym, subst, append_assoc}
use Rattle.std.specs.List.{flat_map}
use Rattle.std.specs.Str.Lines.{lines}
use Rattle.scene_text.specs.declared.scenes.SceneLine.{SceneLine}
use Rattle.scene_text.specs.declared.faults.SceneFault.{SceneFault}
use Rattle.scene_text.specs.declared.print.SettingLine.{SettingLine}
use Rattle.scene_text.specs.Words.{◌>>=◌}
use Rattle.scene_text.specs.Scenes.{PlainScene, empty_scene, with_sockets, IsSound}
use Rattle.scene_text.specs.Settings.{PlainDraft, empty_draft}
use Rattle.scene_text.specs.Grammar.{after_lines, scene_of}
use Rattle.scene_text.specs.Printing.{setting_line, all_settings, what_line, ended_line, lines_text, scene_text_of}
use Rattle.scene_text.proofs.Ranges.{bind_ok, IsFormed}
use Rattle.scene_text.proofs.Sound.{lines_sound}
use Rattle.scene_text.proofs.ReadBack.Splits.{Each}
use Rattle.scene_text.proofs.ReadBack.LineTexts.{IsPrintable, lines_back, each-append}
use Rattle.scene_text.proofs.ReadBack.SettingLines.{set_setup, set_draft, settings_read, settings_printable, same_setup}
use Rattle.scene_text.proofs.ReadBack.Sayings.{Saying, Body, empty_body, body, with_body, says_all, IsSayable, IsWithin, all_lines}
use Rattle.scene_text.proofs.ReadBack.Said.{lines_spoken}
use Rattle.scene_text.proofs.ReadBack.Repeats.{spelled, lines_are, all_printable, drafted, all_said}

ended_each : {X : Type 0} (f : X → List ℕ) (xs : List X) → flat_map (λ x. ended_line (f x)) xs ≡ flat_map ended_line (map f xs)
ended_each f [] = refl
ended_each f (x ∷ xs) = ap (λ rest. ended_line (f x) ++ rest) (ended_each f xs)

ended_both : (xs ys : List (List ℕ)) → flat_map ended_line xs ++ flat_map ended_line ys ≡ flat_map ended_line (xs ++ ys)
ended_both [] ys = refl
ended_both (x ∷ xs) ys = append_assoc (ended_line x) (flat_map ended_line xs) (flat_map ended_line ys) ∙ ap (λ rest. ended_line x ++ rest) (ended_both xs ys)

module _ (scene : PlainScene) (formed : IsFormed scene.setup) (actors : scene.actors ≡ []) (sound : IsSound scene) (sockets : max 1 (length scene.names) ≡ scene.setup.sockets) (ss : List Saying) (sayable : Each IsSayable ss) (all : says_all ss empty_body ≡ body scene) where
  inside : IsWithin (says_all ss empty_body)
  inside = subst IsWithin (sym all) (record { names = sound.limits.names; lines = sound.limits.lines; payload = sound.limits.payload })

  abbrev set_line : SettingLine → List ℕ
  set_line s = setting_line scene.setup scene.room s

  abbrev done_line : SceneLine → List ℕ
  done_line line = what_line scene.names scene.payload line.what

  lines_printed : map done_line scene.lines ≡ map spelled ss
  lines_printed =
      let made_are = sym (ap (λ (b : Body). b.lines) all) ∙ all_lines ss empty_body in
      ap (map done_line) made_are ∙ lines_are ss empty_body (body scene) sayable all

  -- the lines of the text are those of the settings, then what was said
  text_is : scene_text_of scene ≡ flat_map ended_line (map set_line all_settings ++ map spelled ss)
  text_is =
      ap (λ text. text ++ lines_text scene.names scene.payload scene.lines) (ended_each set_line all_settings)
      ∙ ap (λ text. flat_map ended_line (map set_line all_settings) ++ text) (ended_each done_line scene.lines ∙ ap (flat_map ended_line) lines_printed)
      ∙ ended_both (map set_line all_settings) (map spelled ss)

  -- the scene of the settings alone
  abbrev base : PlainScene
  base = record empty_scene { setup = set_setup scene.setup scene.room sound.settings formed; room = scene.room }

  abbrev named : List ℕ
  named = (set_draft scene.setup scene.room sound.settings formed).named

  all_read : after_lines 1 (lines (scene_text_of scene)) empty_draft ≡ Ok (drafted base refl named (says_all ss empty_body))
  all_read =
      ap (λ text. after_lines 1 (lines text) empty_draft) text_is
      ∙ ap (λ ls. after_lines 1 ls empty_draft) (lines_back (map set_line all_settings ++ map spelled ss) (each-append IsPrintable (map set_line all_settings) (map spelled ss) (settings_printable scene.setup scene.room sound.settings formed all_settings) (all_printable ss empty_body sayable inside)))
      ∙ settings_read scene.setup scene.room sound.settings formed (map spelled ss)
      ∙ all_said base refl named ss empty_body 14 sayable inside

  -- what was printed and read, with its number of sockets, is the scene
  same : with_sockets (with_body base (says_all ss empty_body)) ≡ scene
  same =
      ap (λ (b : Body). with_sockets (with_body base b)) all
      ∙ ap (λ n. record (with_body base (body scene)) { setup = record (set_setup scene.setup scene.room sound.settings formed) { sockets = n } }) sockets
      ∙ ap (λ setup. record (with_body base (body scene)) { setup = setup }) (same_setup scene.setup scene.room sound.settings formed)
      ∙ ap (λ none. record scene { actors = none }) (sym actors)

  scene_back : scene_of (scene_text_of scene) ≡ Ok scene
  scene_back =
      ap (λ r. r >>= λ draft. let found : Result PlainScene SceneFault = Ok (with_sockets draft.scene) in found) all_read
      ∙ ap Ok same

draft_back : (ls : List (List ℕ)) (draft : PlainDraft) → after_lines 1 ls empty_draft ≡ Ok draft → scene_of (scene_text_of (with_sockets draft.scene)) ≡ Ok (with_sockets draft.scene)
draft_back ls draft e =
    let spoken = lines_spoken ls draft e in
    let formed = spoken.formed in
    scene_back (with_sockets draft.scene)
    (record { capable = formed.capable; subnet = formed.subnet; rmbs = formed.rmbs; elements = formed.elements; addresses = formed.addresses; links = formed.links })
    spoken.actors (lines_sound ls draft e) refl spoken.sayings spoken.sayable spoken.all

pub read_back : (text : List ℕ) (scene : PlainScene) → scene_of text ≡ Ok scene → scene_of (scene_text_of scene) ≡ Ok scene
read_back text scene e =
    let read = bind_ok (after_lines 1 (lines text) empty_draft) (λ draft. Ok (with_sockets draft.scene)) scene e in
    let same : with_sockets read.0.scene ≡ scene = cc in
    subst (λ s. scene_of (scene_text_of s) ≡ Ok s) same (draft_back (lines text) read.0 read.1)
