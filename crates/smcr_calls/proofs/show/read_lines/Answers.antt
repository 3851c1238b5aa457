use Rattle.std.proofs.Common.{◌+◌, arith}
use Rattle.std.specs.List.{flat_map}
use Rattle.std.proofs.lemmas.Result.{err_from_is_err_and}
use Rattle.smcr_calls.specs.ShowLines.{reading_text}
use Rattle.smcr_calls.proofs.Showing.{next_line, bad_line}
use Rattle.smcr_calls.proofs.show.read_lines.Goals as goal

pub loop-line-preserved : goal.loop-line-preserved
loop-line-preserved c = record {
  same = next_line c.loop-line.rest.now c.in-Some.line.now c.in-Some.after.now c.in-Some.ensures.parts c.without_return.result.now c.without_return.ensures (c.loop-line.number + 1) (flat_map reading_text c.loop-line.readings.items) _ c.loop-line.invariant.same (flat_map reading_text c.read_line_at.new.readings.items) c.in_ok-read_line_at.ensures.ok;
  counted = omega (arith, c.in-Some.ensures.shorter);
}

pub returns-in_err-read_line_at-clause-err : goal.returns-in_err-read_line_at-clause-err
returns-in_err-read_line_at-clause-err c =
    let p = err_from_is_err_and c.from_residual.result c.from_residual.ensures.1 in
    rw (p.1, p.2) (bad_line c.loop-line.rest.now c.in-Some.line.now c.in-Some.after.now c.in-Some.ensures.parts c.without_return.result.now c.without_return.ensures (c.loop-line.number + 1) (flat_map reading_text c.loop-line.readings.items) _ c.loop-line.invariant.same c.in_err-read_line_at.field-0.0 c.in_err-read_line_at.ensures.err)
