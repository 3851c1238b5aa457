-- Messages that come to an end: those of its peer that land, and its own that complete.
-- A reader learns here what an end may rely on when it takes one.
use Rattle.std.specs.Prelude.{◌≡◌, ◌⊎◌, ℕ, ◌+◌, ◌≤◌, true, false, length, Some}
use Rattle.smc_num.specs.Names.{head}
use Rattle.cdc_wire.specs.declared.CdcMessage.{CdcMessage}
use Rattle.pipe_model.specs.declared.snapshot.Snapshot.{Snapshot}
use Rattle.pipe_model.specs.declared.sent.Sent.{Sent}
use Rattle.pipe_model.specs.Ends.{Half}
use Rattle.conn_end.specs.Kept.{Kept, Represents}
use Rattle.conn_end.specs.Batches.{message_of}

-- that a message, with the plain snapshot beside it, is the spelling of one that was sent
pub record IsSpelling (size : ℕ) (m : CdcMessage) (plain : Snapshot) (sent : Sent) : Type 0 where
  pub spelled : m ≡ message_of size m.token sent
  pub plainly : sent.check ≡ false → plain ≡ sent.snapshot

-- that a plain end may take a snapshot of its peer: it reads no less than the one taken before it, and no more than the end
-- accepted; its bytes fit into the end's element behind those that the end has read; and it tells no less than the one taken
-- before it, unless it is aborted
pub record IsTakable (size : ℕ) (s : Snapshot) (h : Half) : Type 0 where
  pub reads_on : h.taken.read ≤ s.read
  pub reads_accepted : s.read ≤ length h.out
  pub fits : s.told ≤ h.rd + size
  pub tells_on : (s.aborted ≡ true) ⊎ (h.taken.told ≤ s.told)

-- that a plain end, for which what is kept stands, may take a message
pub record Lands (k : Kept) (m : CdcMessage) (plain : Snapshot) (h : Half) (sent : Sent) : Type 0 where
  pub stands : Represents k h
  pub spelling : IsSpelling k.size m plain sent
  pub taken : sent.check ≡ false → IsTakable k.size sent.snapshot h

-- that there is one
pub record MayLand (k : Kept) (m : CdcMessage) (plain : Snapshot) : Type 0 where
  pub end : Half
  pub sent : Sent
  pub lands : Lands k m plain end sent

-- that a message of a plain end is the oldest that has not completed, or is one of validation
pub record Completes (k : Kept) (m : CdcMessage) (plain : Snapshot) (h : Half) (sent : Sent) : Type 0 where
  pub stands : Represents k h
  pub spelling : IsSpelling k.size m plain sent
  pub oldest : sent.check ≡ false → head h.flight ≡ Some sent.snapshot

-- that there is one
pub record MayComplete (k : Kept) (m : CdcMessage) (plain : Snapshot) : Type 0 where
  pub end : Half
  pub sent : Sent
  pub completes : Completes k m plain end sent
