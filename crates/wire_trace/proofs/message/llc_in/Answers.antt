use Rattle.std.proofs.Common.{◌∙◌, sym, ap, subst, IfOk}
use Rattle.llc_wire.specs.Llc as llc
use Rattle.wire_trace.specs.Messages.{llc_if}
use Rattle.wire_trace.proofs.WhatWasRead.{llc_fits}
use Rattle.wire_trace.proofs.message.llc_in.Goals as goal

pub llc_if-requires : goal.llc_if-requires
llc_if-requires c = subst (λ read. IfOk read llc.Fits) (sym (c.read_llc.ensures ∙ ap llc.llc_read c.whole.ensures)) (llc_fits c.args.bytes.now (λ k. (c.type_inv.bytes k).fits))

pub returns : goal.returns
returns c = c.llc_if.ensures ∙ ap (llc_if c.args.bytes.now) (c.read_llc.ensures ∙ ap llc.llc_read c.whole.ensures)
