use Rattle.std.proofs.Common.{◌∙◌, sym, ap, subst, Ok}
use Rattle.smcr_calls.specs.Runs.{SameScene}
use Rattle.smcr_calls.proofs.Runs.{pumps-more, pumps-refused, scene-pump, scene-more}
use Rattle.smcr_calls.proofs.run.pump_up_to.Goals as goal

pub returns-in-Err-clause-ran : goal.returns-in-Err-clause-ran
returns-in-Err-clause-ran c = pumps-refused c.args.count c.loop.counter c.loop.world c.pump.new.self c.in-Err.fault _ c.loop-test.true (sym c.in-Err.ensures.reply) c.in-Err.ensures.world c.loop.invariant.left

pub loop-preserved : goal.loop-preserved
loop-preserved c = record {
  left = pumps-more c.args.count c.loop.counter c.loop.world c.pump.new.self c.in-Ok-Some.field-0-0 _ c.loop-test.true (sym c.pump.ensures.reply ∙ c.in-Ok-Some.is ∙ ap Ok c.in-Ok-Some.field-0-is) c.pump.ensures.world c.loop.invariant.left;
  scene = scene-more _ _ _ c.loop.invariant.scene (subst (SameScene c.loop.world) (sym c.pump.ensures.world) (scene-pump 0 c.loop.world));
}
