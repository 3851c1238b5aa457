use Rattle.std.proofs.Common.{◌∙◌, ap}
use Rattle.conn_end.specs.Table.{after_action}
use Rattle.conn_end.proofs.closing.ClosingTable.after.Goals as goal

pub returns : goal.returns
returns c = c.led_to.ensures ∙ ap (λ cause. after_action c.action.result cause c.args.phase) c.cause_of_step.ensures ∙ c.action.ensures.phase
