use Rattle.std.proofs.Common.{ap, arith}
use Rattle.smcr_calls.proofs.RunsOfBytes.{next_same, next_other, run_cut, comma_cut, last_run}
use Rattle.smcr_calls.proofs.spell.put_runs.Goals as goal
use Rattle.smcr_calls.proofs.spell.put_runs.Goals.{then-byte-current, else-byte-current+in_ok-put_run+in_ok-put_text}

pub returns-in_err-put_run-clause-wrote : goal.returns-in_err-put_run-clause-wrote
returns-in_err-put_run-clause-wrote g c =
    let loop = c.loop-byte in
    run_cut _ _ _ _ _ loop.current loop.count loop.byte-index c.args.rest.now c.loop-byte-test.true loop.invariant.going c.if-byte-current.false _ _ _ c.from_residual.ensures.0 c.in_err-put_run.ensures.wrote

pub returns-in_err-put_text-clause-wrote : goal.returns-in_err-put_text-clause-wrote
returns-in_err-put_text-clause-wrote g c =
    let loop = c.loop-byte in
    comma_cut _ _ _ _ _ loop.current loop.count loop.byte-index c.args.rest.now c.loop-byte-test.true loop.invariant.going c.if-byte-current.false _ _ c.in_ok-put_run.ensures.wrote _ _ _ c.from_residual-in_err-put_text.ensures.0 c.in_err-put_text.ensures.wrote

pub loop-byte-preserved : goal.loop-byte-preserved
loop-byte-preserved g c =
    let loop = c.loop-byte in
    record {
      going = elim c.if-byte-current.branch [
        | then-byte-current w ↦ next_same _ _ _ _ _ loop.current loop.count loop.byte-index c.args.rest.now c.loop-byte-test.true loop.invariant.going _ _ _ _ w.if-byte-current.true (ap (λ v. g.K.Sink.held v) w.sink-is) w.page-is w.current-is w.count-is
        | else-byte-current+in_ok-put_run+in_ok-put_text w ↦ next_other _ _ _ _ _ loop.current loop.count loop.byte-index c.args.rest.now c.loop-byte-test.true loop.invariant.going w.if-byte-current.false _ _ w.in_ok-put_run.ensures.wrote _ _ _ _ _ _ w.in_ok-put_text.ensures.wrote (ap (λ v. g.K.Sink.held v) w.sink-is) w.page-is w.current-is w.count-is
      ];
      few = elim c.if-byte-current.branch [ then-byte-current w ↦ omega arith | else-byte-current+in_ok-put_run+in_ok-put_text w ↦ omega arith ];
      later = elim c.if-byte-current.branch [
        | then-byte-current w ↦ grind (arith, w.sink-is, loop.invariant.later)
        | else-byte-current+in_ok-put_run+in_ok-put_text w ↦ grind (arith, w.sink-is, loop.invariant.later, w.in_ok-put_run.ensures.cause.later, w.in_ok-put_text.ensures.cause.later)
      ];
    }

pub returns-clause-wrote : goal.returns-clause-wrote
returns-clause-wrote g c = last_run _ _ _ _ _ c.loop-byte.current c.loop-byte.count c.loop-byte.byte-index c.args.rest.now c.loop-byte-test.false c.loop-byte.invariant.going _ _ _ c.put_run-2.ensures.wrote
