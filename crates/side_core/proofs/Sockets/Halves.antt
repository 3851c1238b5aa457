-- Plain ends for which the same end stands.
-- A reader learns here that a message which one of them may take, the other may take too.
use Rattle.std.proofs.Common.{◌≡◌, ◌∙◌, ◌⊎◌, ℕ, ◌+◌, ◌≤◌, ◌&&◌, true, length, sym, ap, subst}
use Rattle.cdc_wire.specs.declared.CdcMessage.{CdcMessage}
use Rattle.smc_num.specs.Names.{head}
use Rattle.pipe_model.specs.declared.snapshot.Snapshot.{Snapshot}
use Rattle.pipe_model.specs.declared.sent.Sent.{Sent}
use Rattle.pipe_model.specs.Snapshot.{is_last}
use Rattle.pipe_model.specs.Ends.{Half, is_over}
use Rattle.conn_end.specs.Kept.{Kept, Represents}
use Rattle.conn_end.specs.Arrivals.{IsTakable, Lands, Completes}

takable_same : (size : ℕ) (s : Snapshot) (h g : Half) → h.taken ≡ g.taken → length h.out ≡ length g.out → h.rd ≡ g.rd → IsTakable size s h → IsTakable size s g
takable_same size s h g taken accepted read may = record {
  reads_on = subst (λ (t : Snapshot). t.read ≤ s.read) taken may.reads_on;
  reads_accepted = subst (λ n. s.read ≤ n) accepted may.reads_accepted;
  fits = subst (λ n. s.told ≤ n + size) read may.fits;
  tells_on = subst (λ (t : Snapshot). (s.aborted ≡ true) ⊎ (t.told ≤ s.told)) taken may.tells_on;
}

-- a message that lands on one end may land on another for which the same end stands
pub lands_too : (k : Kept) (m : CdcMessage) (plain : Snapshot) (h g : Half) (sent : Sent) → Represents k g → Lands k m plain h sent → Lands k m plain g sent
lands_too k m plain h g sent stands lands = record {
  stands = stands;
  spelling = lands.spelling;
  taken = λ e. takable_same k.size sent.snapshot h g (sym lands.stands.taken ∙ stands.taken) (sym lands.stands.accepted ∙ stands.accepted) (sym lands.stands.read ∙ stands.read) (lands.taken e);
}

-- the same of one that completes
pub completes_too : (k : Kept) (m : CdcMessage) (plain : Snapshot) (h g : Half) (sent : Sent) → Represents k g → Completes k m plain h sent → Completes k m plain g sent
completes_too k m plain h g sent stands completes = record {
  stands = stands;
  spelling = completes.spelling;
  oldest = λ e. ap head (sym stands.flight ∙ completes.stands.flight) ∙ completes.oldest e;
}

-- what is kept tells whether an end is over
pub over_told : (k : Kept) (h : Half) → Represents k h → is_over h ≡ (is_last k.course.fin && is_last k.course.taken)
over_told k h stands = ap (λ s. is_last s && is_last h.taken) (sym stands.fin) ∙ ap (λ s. is_last k.course.fin && is_last s) (sym stands.taken)
