use Rattle.std.proofs.Common.{◌≡◌, ◌-◌, ◌≤◌, length, map, filter, take, nat_lt}
use Rattle.cdc_ring.proofs.marks_past.Given as goal

abbrev pub invariant-loop-mark : goal.invariant-loop-mark
invariant-loop-mark l =
    record {
      past : l.past.items ≡ map (λ mark. mark - l.count) (filter (λ mark. nat_lt l.count mark) (take l.mark-index l.mark-items));
      few : length l.past.items ≤ l.mark-index;
    }
