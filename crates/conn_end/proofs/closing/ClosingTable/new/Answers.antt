use Rattle.std.proofs.Common.{refl, true≢false, sym}
use Rattle.field_cases.proofs.Literal.{tested_is_sound}
use Rattle.conn_end.specs.declared.closing.TheConstants.{TABLE}
use Rattle.conn_end.proofs.closing.ClosingTable.new.Goals as goal

pub unreachable-requires : goal.unreachable-requires
unreachable-requires c = true≢false (sym (c.in-Err.ensures.sound.1 (tested_is_sound TABLE.rows 8 4 refl)))
