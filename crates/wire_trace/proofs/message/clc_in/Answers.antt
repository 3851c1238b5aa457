use Rattle.std.proofs.Common.{sym, subst, IfOk}
use Rattle.clc_wire.specs.Clc as clc
use Rattle.wire_trace.proofs.WhatWasRead.{clc_fits}
use Rattle.wire_trace.proofs.message.clc_in.Goals as goal

pub clc_if-requires : goal.clc_if-requires
clc_if-requires c = subst (λ read. IfOk read (λ found. clc.Fits found.0)) (sym c.read_clc.ensures.front) (clc_fits c.args.bytes.now (λ k. (c.type_inv.bytes k).fits))
