use Rattle.std.proofs.Common.{true≢false, sym, refl}
use Rattle.field_cases.proofs.Literal.{tested_is_sound}
use Rattle.llc_flows.specs.declared.server.TheConstants.{TABLE}
use Rattle.llc_flows.proofs.server.ServerTable.new.Goals as goal

pub unreachable-requires : goal.unreachable-requires
unreachable-requires c = true≢false (sym (c.in-Err.ensures.sound.1 (tested_is_sound TABLE.rows 6 4 refl)))
