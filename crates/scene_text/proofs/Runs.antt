-- Runs that were read, before those that are left.
use Rattle.std.proofs.Common.{List, ◌++◌, Result, Ok}
use Rattle.scene_text.specs.declared.words.Run.{Run}
use Rattle.scene_text.specs.declared.faults.LineKind.{LineKind}
use Rattle.scene_text.specs.Words.{◌>>=◌}

abbrev pub with_front : List Run → Result (List Run) LineKind → Result (List Run) LineKind
with_front front read = read >>= λ runs. Ok (front ++ runs)
