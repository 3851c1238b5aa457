use Rattle.std.proofs.Common.{arith}
use Rattle.byte_port.proofs.Paging.{one_more}
use Rattle.smcr_calls.specs.Prints.{printed}
use Rattle.smcr_calls.proofs.Putting.{broke_off, next_entry}
use Rattle.smcr_calls.proofs.print.put_entries.Goals as goal

pub returns-in_err-put_entry-clause-wrote : goal.returns-in_err-put_entry-clause-wrote
returns-in_err-put_entry-clause-wrote g c =
    broke_off _ _ _ _ _ _ _ _ _ _ _ c.from_residual.ensures.0 c.loop-index.invariant.going (next_entry (printed c.args.texts.now) c.args.history.now c.loop-index.index c.index-history-index.result c.index-history-index.is c.loop-index-test.true) c.in_err-put_entry.ensures.wrote

pub loop-index-preserved : goal.loop-index-preserved
loop-index-preserved g c =
    record {
      going = one_more _ _ _ _ _ _ c.loop-index.invariant.going _ _ _ _ (next_entry (printed c.args.texts.now) c.args.history.now c.loop-index.index c.index-history-index.result c.index-history-index.is c.loop-index-test.true) c.in_ok-put_entry.ensures.wrote;
      later = omega (arith, c.loop-index.invariant.later, c.in_ok-put_entry.ensures.cause.later);
    }
