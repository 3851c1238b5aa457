-- What happens to the end of a connection: calls of its application, and messages that land or complete.
-- A reader learns here when each such change may come, what it makes of the private pipe's end, and what it is told.
use Rattle.std.specs.Prelude.{◌≡◌, ◌<◌, ◌^◌, ℕ, Option, Some, None}
use Rattle.cdc_wire.specs.declared.CdcMessage.{CdcMessage}
use Rattle.pipe_model.specs.declared.snapshot.Snapshot.{Snapshot}
use Rattle.pipe_model.specs.declared.sent.Sent.{Sent}
use Rattle.pipe_model.specs.Ends.{Half, takes, completes}
use Rattle.pipe_model.specs.Calls.{Call, Writes, Reads, Finishes, Closes, Aborts, calls}
use Rattle.conn_end.specs.declared.answers.EndReply.{EndReply}
use Rattle.conn_end.specs.Kept.{Kept, Represents}
use Rattle.conn_end.specs.Told.{Answers}
use Rattle.conn_end.specs.Arrivals.{Completes, MayComplete}
use Rattle.side_core.specs.declared.change.EndCall.{EndCall}
use Rattle.side_core.specs.declared.change.EndCall.TheVariants.{Finish, Close, Abort}
use Rattle.side_core.specs.declared.change.Change.{Change}
use Rattle.side_core.specs.declared.change.Change.TheVariants.{Write, Read, End, Land, Complete}
use Rattle.side_core.specs.Records.{Connection}
use Rattle.side_core.specs.Comings.{Arrives, MayArrive}

-- the call by which an application ends its part of a connection
-- RFC 7609, 4.8
abbrev pub named : EndCall → Call
named Finish = Finishes
named Close = Closes
named Abort = Aborts

-- that a change may come to an end
abbrev pub MayCome : Change → Kept → Type 0
MayCome (Write bytes) k = k.accepted < 2 ^ 63
MayCome (Read len) k = Unit {0}
MayCome (End call) k = Unit {0}
MayCome (Land m plain) k = MayArrive k m.now plain.now
MayCome (Complete m plain) k = MayComplete k m.now plain.now

-- that of what may be no connection
abbrev pub MayComeAt : Change → Option (Connection Kept) → Type 0
MayComeAt change None = ⊥
MayComeAt change (Some k) = MayCome change k.end

-- that a call does this to a plain end
pub record IsCall (size : ℕ) (call : Call) (k : Kept) (h : Half) (act : Half → Half) : Type 0 where
  pub stands : Represents k h
  pub is : act ≡ calls size call

-- that a message that lands does this to it
pub record IsLanding (k : Kept) (m : CdcMessage) (plain : Snapshot) (h : Half) (act : Half → Half) : Type 0 where
  pub sent : Sent
  pub comes : Arrives k m plain h sent
  pub is : act ≡ takes (Some sent)

-- that a message that completes does this to it
pub record IsCompletion (k : Kept) (m : CdcMessage) (plain : Snapshot) (h : Half) (act : Half → Half) : Type 0 where
  pub sent : Sent
  pub done : Completes k m plain h sent
  pub is : act ≡ completes (Some sent)

-- that a change does this to a plain end for which what is kept stands, where elements have so many bytes
abbrev pub Makes : ℕ → Change → Kept → Half → (Half → Half) → Type 0
Makes size (Write bytes) k h act = IsCall size (Writes bytes.now) k h act
Makes size (Read len) k h act = IsCall size (Reads len) k h act
Makes size (End call) k h act = IsCall size (named call) k h act
Makes size (Land m plain) k h act = IsLanding k m.now plain.now h act
Makes size (Complete m plain) k h act = IsCompletion k m.now plain.now h act

-- that of what may be no connection
abbrev pub MakesAt : ℕ → Change → Option (Connection Kept) → Option (Connection Half) → (Half → Half) → Type 0
MakesAt size change (Some k) (Some c) act = Makes size change k.end c.end act
MakesAt size change _ _ act = ⊥

-- that a call is told what the private pipe tells it
abbrev pub Tells : ℕ → Change → Half → EndReply → Type 0
Tells size (Write bytes) h reply = Answers size (Writes bytes.now) h reply
Tells size (Read len) h reply = Answers size (Reads len) h reply
Tells size (End call) h reply = Answers size (named call) h reply
Tells size (Land m plain) h reply = Unit {0}
Tells size (Complete m plain) h reply = Unit {0}
