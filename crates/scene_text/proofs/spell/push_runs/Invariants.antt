use Rattle.std.proofs.Common.{◌≡◌, ◌≤◌, ◌+◌, ◌++◌, ◌∷◌, drop}
use Rattle.scene_text.specs.Spelling.{runs, bytes_text}
use Rattle.scene_text.proofs.RunsOfBytes.{add_run, joined}
use Rattle.scene_text.proofs.spell.push_runs.Given as goal

abbrev pub invariant-loop-byte : goal.invariant-loop-byte
invariant-loop-byte l =
    record {
      so_far : l.out.items ++ joined (add_run l.current l.count (runs (drop l.byte-index l.rest))) ≡ l.fn.out.items ++ bytes_text (l.fn.first ∷ l.rest);
      few : l.count ≤ l.byte-index + 1;
    }
