use Rattle.std.proofs.Common.{not, sym, ap}
use Rattle.std.specs.Prelude.{if◌then◌else◌}
use Rattle.smc_num.specs.Names.{has}
use Rattle.smc_num.specs.Links.{is_live, phase_at}
use Rattle.pipe_model.specs.declared.reply.Hold.TheVariants.{TestLink}
use Rattle.pipe_model.specs.declared.reply.Reply.{Reply}
use Rattle.pipe_model.specs.declared.reply.Reply.TheVariants.{Idle, Sent}
use Rattle.pipe_model.specs.declared.reply.SentKind.TheVariants.{TestLink as TestSent}
use Rattle.pipe_model.specs.Fabric.{flow_of, table_of}
use Rattle.llc_flows.proofs.Held.{by_one}
use Rattle.llc_flows.proofs.laws.test_is_held_as_told.Goals as goal

pub returns : goal.returns
returns c = λ x slot past.
    ap (λ (r : Reply). if not (is_live (phase_at slot (table_of x past))) then Idle else r) (sym (by_one (has slot (flow_of x past).tests) TestLink (Sent TestSent)))
