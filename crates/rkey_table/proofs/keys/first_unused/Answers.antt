use Rattle.std.proofs.Common.{◌∙◌, not, ap, sym}
use Rattle.smc_num.specs.Keys.{is_used}
use Rattle.rkey_table.proofs.Numbers.{find_next}
use Rattle.rkey_table.proofs.keys.first_unused.Goals as goal

pub loop-i-preserved : goal.loop-i-preserved
loop-i-preserved c = find_next (λ n. not (is_used n c.args.keys.now)) c.args.from c.loop-i.i c.args.count c.loop-i-test.true (ap not (sym c.is_used.ensures ∙ c.if-not-is_used.false)) ∙ c.loop-i.invariant
