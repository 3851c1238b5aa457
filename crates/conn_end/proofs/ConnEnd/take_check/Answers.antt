use Rattle.std.proofs.Common.{◌≡◌, ◌∙◌, cond, Bool, None, Some, sym, ap, subst}
use Rattle.conn_end.specs.Kept.{Kept, Represents}
use Rattle.pipe_model.specs.Ends.{Half}
use Rattle.std.specs.Prelude.{Option}
use Rattle.cdc_wire.specs.declared.CdcMessage.{CdcMessage}
use Rattle.pipe_model.specs.Ends.{check}
use Rattle.pipe_model.specs.Snapshot.{validation}
use Rattle.conn_end.specs.Batches.{owed_by}
use Rattle.conn_end.proofs.Ends.{Stands, came}
use Rattle.conn_end.proofs.ConnEnd.take_check.Goals as goal

pub returns-clause-check : goal.returns-clause-check
returns-clause-check c = λ h.
    let x = c.self.inside in
    subst (λ (v : Kept). Represents v h → ◌≡◌ {A = Option CdcMessage} (Some c.spell_check.result) (owed_by v h)) c.self.view_is (λ (s : Stands x.size x.ring x.accepted x.course h).
    ap Some (c.spell_check.ensures ∙ ap (validation x.size x.token) (c.check.ensures h ∙ ap (λ (q : Half). (check q).snapshot) (came x.size x.ring x.accepted x.course h s)))
    ∙ sym (ap (λ (b : Bool). cond b (Some (validation x.size x.token (check h).snapshot)) None) c.if-not-self.false))
