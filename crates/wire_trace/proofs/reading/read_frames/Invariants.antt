use Rattle.std.proofs.Common.{◌≤◌, ◌-◌, length}
use Rattle.wire_trace.proofs.FrameByFrame.{Reading}
use Rattle.wire_trace.proofs.reading.read_frames.Given as goal

abbrev pub invariant-loop-last : goal.invariant-loop-last
invariant-loop-last l =
    record {
      there : l.place ≤ length l.bytes;
      reading : Reading l.bytes l.place l.last l.posts.items;
    }

abbrev pub decreases-loop-last : goal.decreases-loop-last
decreases-loop-last l = length l.bytes - l.place
