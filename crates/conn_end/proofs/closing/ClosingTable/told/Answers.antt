use Rattle.std.proofs.Common.{◌∙◌, ap, sym}
use Rattle.std.proofs.lemmas.Bool.{ne_eqb}
use Rattle.pipe_model.specs.declared.reply.Reply.TheVariants.{Ended, Done}
use Rattle.std.proofs.Common.{cond}
use Rattle.pipe_model.specs.Calls.{Plain}
use Rattle.conn_end.specs.Table.{told_by}
use Rattle.conn_end.proofs.closing.ClosingTable.told.Goals as goal

pub returns-then-action-eq-STAY : goal.returns-then-action-eq-STAY
returns-then-action-eq-STAY c = λ rd peer_out. ap Plain (ap told_by (sym c.if-action-eq-STAY.true) ∙ c.action.ensures.answer)

pub returns-else-action-eq-STAY : goal.returns-else-action-eq-STAY
returns-else-action-eq-STAY c = λ rd peer_out. ap Plain (ap (λ b. cond b Ended Done) (sym (ne_eqb c.action.result 0 c.if-action-eq-STAY.false)) ∙ c.action.ensures.answer)
