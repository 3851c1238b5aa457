use Rattle.std.proofs.Common.{subst, sym, arith}
use Rattle.std.specs.Str.Lines.{lines}
use Rattle.scene_text.specs.Scenes.{IsSound}
use Rattle.scene_text.specs.Settings.{plain_draft, empty_draft}
use Rattle.scene_text.proofs.Reading.{lines_within}
use Rattle.scene_text.proofs.Sound.{lines_sound}
use Rattle.scene_text.proofs.grammar.read_scene.Goals as goal

pub count_sockets-requires : goal.count_sockets-requires
count_sockets-requires c = lines_within 1 (lines c.args.bytes.now) empty_draft (plain_draft c.in_ok-draft.draft) c.in_ok-draft.ensures (record { names = omega arith; lines = omega arith; payload = omega arith })

pub returns-clause-sound : goal.returns-clause-sound
returns-clause-sound c = subst IsSound (sym c.count_sockets.ensures) (lines_sound (lines c.args.bytes.now) (plain_draft c.in_ok-draft.draft) c.in_ok-draft.ensures)
