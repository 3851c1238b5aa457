use Rattle.std.proofs.Common.{◌+◌, arith}
use Rattle.std.proofs.lemmas.Result.{err_from_is_err_and}
use Rattle.scene_text.specs.Settings.{plain_draft}
use Rattle.scene_text.proofs.Reading.{line_within, next_line, bad_line}
use Rattle.scene_text.proofs.grammar.read_lines.Goals as goal

pub loop-line-preserved : goal.loop-line-preserved
loop-line-preserved c = record {
  same = next_line c.loop-line.rest.now c.in-Some.line.now c.in-Some.after.now c.in-Some.ensures.parts c.without_return.result.now c.without_return.ensures (c.loop-line.number + 1) (plain_draft c.loop-line.draft) _ c.loop-line.invariant.same (plain_draft c.read_line_at.new.draft) c.in_ok-read_line_at.ensures.ok;
  counted = omega (arith, c.in-Some.ensures.shorter);
  within = line_within (c.loop-line.number + 1) c.without_return.result.now (plain_draft c.loop-line.draft) (plain_draft c.read_line_at.new.draft) c.in_ok-read_line_at.ensures.ok c.loop-line.invariant.within;
}

pub returns-in_err-read_line_at : goal.returns-in_err-read_line_at
returns-in_err-read_line_at c =
    let p = err_from_is_err_and c.from_residual.result c.from_residual.ensures.1 in
    rw (p.1, p.2) (bad_line c.loop-line.rest.now c.in-Some.line.now c.in-Some.after.now c.in-Some.ensures.parts c.without_return.result.now c.without_return.ensures (c.loop-line.number + 1) (plain_draft c.loop-line.draft) _ c.loop-line.invariant.same c.in_err-read_line_at.field-0.0 c.in_err-read_line_at.ensures.err)
