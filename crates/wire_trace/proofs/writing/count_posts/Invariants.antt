use Rattle.std.proofs.Common.{◌≡◌, ◌+◌, ◌*◌, ◌≤◌, drop, length}
use Rattle.wire_trace.specs.Files.{posts_from, posts_in}
use Rattle.wire_trace.proofs.writing.count_posts.Given as goal

abbrev pub invariant-loop-entry : goal.invariant-loop-entry
invariant-loop-entry l =
    record {
      all : l.count + length (posts_from (l.entry-index + 1) (drop l.entry-index l.entries)) ≡ length (posts_in l.entries);
      few : l.count ≤ 6 * l.entry-index;
    }
