-- Each line of a scene fits it.
use Rattle.std.proofs.Common.{◌≡◌, ◌∙◌, ℕ, ◌≤◌, max, List, [], ◌∷◌, ◌++◌, length, Ok, ap, sym, subst, arith}
use Rattle.std.specs.List.{All}
use Rattle.std.proofs.lemmas.List.{length-append}
use Rattle.std.proofs.lemmas.List.Elements.{All-nil, All-cons}
use Rattle.pipe_model.specs.declared.setup.Setup.{Setup}
use Rattle.pipe_model.specs.declared.setup.Room.{Room}
use Rattle.scene_text.specs.declared.limits.TheConstants.{MOST_NAMES}
use Rattle.scene_text.specs.declared.shapes.Shape.{Shape}
use Rattle.scene_text.specs.declared.shapes.Shape.TheVariants.{Name, Count, EndBytes, EndNumber, NameSide, SlotSide}
use Rattle.scene_text.specs.Scenes.{with_sockets, LineFits, IsWithinLimits, IsInRange, IsSound}
use Rattle.scene_text.specs.Settings.{PlainDraft, empty_draft}
use Rattle.scene_text.specs.Shapes.{Values}
use Rattle.scene_text.specs.Commands.{shape_of, names_after, number_named}
use Rattle.scene_text.specs.Grammar.{after_lines}
use Rattle.scene_text.proofs.Mentions.{socket_below}
use Rattle.scene_text.proofs.Reading.{lines_within}
use Rattle.scene_text.proofs.ReadBack.Splits.{Each}
use Rattle.scene_text.proofs.ReadBack.Sayings.{Saying, Body, empty_body, said, says_all, IsShaped, IsSayable, begins_length, all_names, all_payload, made, all_lines, line_of}
use Rattle.scene_text.proofs.ReadBack.Said.{lines_spoken}
use Rattle.scene_text.proofs.ReadBack.ByWord.{FitsShape, word_fits}

module _ (setup : Setup) (bytes : ℕ) where
  -- values of a shape fit where the names after them have sockets and the bytes after them are in the payload
  module _ (names : List (List ℕ)) (payload : List ℕ) where
    abbrev Fitting : Shape → Values → Type 0
    Fitting shape v = length (names_after v.name names) ≤ setup.sockets → length (payload ++ v.bytes) ≤ bytes → FitsShape shape setup bytes v (number_named v.name names) (length payload)

    shape_fits : (shape : Shape) (v : Values) → IsShaped shape v → Fitting shape v
    shape_fits Name v h = subst (Fitting Name) h.2 (λ few short. let low = socket_below names h.0 in omega arith)
    shape_fits Count v h = subst (Fitting Count) h.3 (λ few short. (h.1, h.2))
    shape_fits EndBytes v h = subst (Fitting EndBytes) h.4 (λ few short. let low = socket_below names h.0.name in let all = length-append payload h.2 in (omega arith, omega arith))
    shape_fits EndNumber v h = subst (Fitting EndNumber) h.4 (λ few short. let low = socket_below names h.0.name in omega arith)
    shape_fits NameSide v h = subst (Fitting NameSide) h.3 (λ few short. let low = socket_below names h.0 in omega arith)
    shape_fits SlotSide v h = subst (Fitting SlotSide) h.4 (λ few short. let low = h.1 in let high = h.2 in omega arith)

  said_fits : (s : Saying) (b : Body) → IsSayable s → length (said s b).names ≤ setup.sockets → length (said s b).payload ≤ bytes → LineFits setup bytes (line_of s b)
  said_fits s b h few short =
      let v = s.values in
      word_fits s.command setup bytes v (number_named v.name b.names) (length b.payload) (shape_fits b.names b.payload (shape_of s.command) v h few short)

  all_fit : (ss : List Saying) (b : Body) → Each IsSayable ss → length (says_all ss b).names ≤ setup.sockets → length (says_all ss b).payload ≤ bytes → All (LineFits setup bytes) (made ss b)
  all_fit [] b h few short = All-nil (LineFits setup bytes)
  all_fit (s ∷ ss) b h few short =
      let names = begins_length (said s b).names (says_all ss (said s b)).names (all_names ss (said s b)) in
      let payload = begins_length (said s b).payload (says_all ss (said s b)).payload (all_payload ss (said s b)) in
      All-cons (LineFits setup bytes) (line_of s b) (made ss (said s b)) (said_fits s b h.0 (omega arith) (omega arith)) (all_fit ss (said s b) h.1 few short)

of_sockets : (setup : Setup) (room : Room) (sockets : ℕ) → 1 ≤ sockets → sockets ≤ MOST_NAMES → IsInRange setup room → IsInRange (record setup { sockets = sockets }) room
of_sockets setup room sockets low high h = record { subnet = h.subnet; links = h.links; size = h.size; rmbs = h.rmbs; elements = h.elements; depth = h.depth; number = h.number; sockets = (low, high); entries = h.entries; bytes = h.bytes }

-- what lines make of the empty scene is sound, with its number of sockets
pub lines_sound : (lines : List (List ℕ)) (draft : PlainDraft) → after_lines 1 lines empty_draft ≡ Ok draft → IsSound (with_sockets draft.scene)
lines_sound lines draft e =
    let scene = draft.scene in
    let spoken = lines_spoken lines draft e in
    let limits : IsWithinLimits scene = lines_within 1 lines empty_draft draft e (record { names = omega arith; lines = omega arith; payload = omega arith }) in
    let few = limits.names in
    let sockets = max 1 (length scene.names) in
    let names = ap (λ (b : Body). length b.names) spoken.all in
    let payload = ap (λ (b : Body). length b.payload) spoken.all in
    let made_are : scene.lines ≡ made spoken.sayings empty_body = sym (ap (λ (b : Body). b.lines) spoken.all) ∙ all_lines spoken.sayings empty_body in
    record {
      limits = record { names = limits.names; lines = limits.lines; payload = limits.payload };
      settings = of_sockets scene.setup scene.room sockets (omega arith) (omega arith) spoken.settings;
      sockets = omega arith;
      lines = subst (All (LineFits (record scene.setup { sockets = sockets }) (length scene.payload))) (sym made_are) (all_fit (record scene.setup { sockets = sockets }) (length scene.payload) spoken.sayings empty_body spoken.sayable (omega arith) (omega arith));
    }
