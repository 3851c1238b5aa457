-- What an end posts.
-- A reader learns here which messages a batch has, and where in the peer's element its bytes go.
use Rattle.std.specs.Prelude.{◌≡◌, ℕ, ◌+◌, ◌-◌, ◌%◌, ◌<◌, ◌≤◌, min, length, ◌&&◌, Bool, if◌then◌else◌, Option, Some, None}
use Rattle.smc_num.specs.Names.{has_link}
use Rattle.cdc_wire.specs.declared.CdcMessage.{CdcMessage}
use Rattle.cdc_ring.specs.declared.Piece.{Piece}
use Rattle.cdc_ring.specs.Rings.{Ring, front_piece, back_piece, posts}
use Rattle.pipe_model.specs.declared.snapshot.Snapshot.{Snapshot}
use Rattle.pipe_model.specs.Snapshot.{spelled, validation}
use Rattle.pipe_model.specs.declared.sent.Sent.{Sent}
use Rattle.pipe_model.specs.Ends.{Half, present, is_due, batch, check}
use Rattle.conn_end.specs.declared.answers.Batch.{Batch}
use Rattle.conn_end.specs.Kept.{Kept, Represents}

-- the message of an end, spelled under a token
abbrev pub message_of : ℕ → ℕ → Sent → CdcMessage
message_of size token m = if m.check then validation size token m.snapshot else spelled size token m.snapshot

-- the part of an element where bytes from one place of the stream to another begin, up to the end of the element
abbrev pub front_of : ℕ → ℕ → ℕ → Piece
front_of size from to = record { place = from % size; len = min (to - from) (size - from % size) }

-- the part from the start of the element on, where they go round
abbrev pub back_of : ℕ → ℕ → ℕ → Piece
back_of size from to = record { place = 0; len = (to - from) - (front_of size from to).len }

-- no part
abbrev pub no_piece : Piece
no_piece = record { place = 0; len = 0 }

-- whether an end is established, and its link is live at its side
abbrev pub may_post : Half → Bool
may_post h = h.up && has_link h.link h.live

-- the validation message that an end owes
abbrev pub owed_by : Kept → Half → Option CdcMessage
owed_by k h = if k.owes then Some (message_of k.size k.token (check h)) else None

-- what is due, with the validation message that is owed
abbrev pub due_with : Kept → Half → Option CdcMessage → Batch
due_with k h owed = record { check = owed; pieces = (front_of k.size (batch h).from (present h).told, back_of k.size (batch h).from (present h).told); message = Some (message_of k.size k.token (batch h)) }

-- what is owed, where nothing is due
abbrev pub owed_alone : Option CdcMessage → Option Batch
owed_alone None = None
owed_alone (Some m) = Some (record { check = Some m; pieces = (no_piece, no_piece); message = None })

-- what an end posts now
abbrev pub batch_of : Kept → Half → Option Batch
batch_of k h =
    if may_post h then (if is_due k.course.depth h then Some (due_with k h (owed_by k h)) else owed_alone (owed_by k h)) else None

-- that a snapshot may be posted: the flight has room, and it tells what was accepted, or no more than the last one
pub record IsPostable (k : Kept) (s : Snapshot) : Type 0 where
  pub room : length k.course.flight < k.course.depth
  pub told : s.told ≡ (if s.aborted then k.course.last.told else k.accepted)

-- where the bytes go that a snapshot tells; an aborted one tells none
abbrev pub pieces_for : ℕ → Snapshot → Ring → Piece × Piece
pieces_for size s ring = if s.aborted then (record { place = s.told % size; len = 0 }, no_piece) else (front_piece ring, back_piece ring)

-- the ring behind them
abbrev pub posts_for : Snapshot → Ring → Ring
posts_for s ring = if s.aborted then ring else posts ring

-- that an end keeps the bytes of a piece, the first of which has a place in the stream
pub record HoldsPiece (k : Kept) (piece : Piece) (h : Half) (first : ℕ) : Type 0 where
  pub stands : Represents k h
  pub place : piece.place ≡ first % k.size
  pub from : h.fin.told ≤ first
  pub to : first + piece.len ≤ length h.out

-- that there is such a place
pub record IsKeptPiece (k : Kept) (piece : Piece) : Type 0 where
  pub end : Half
  pub first : ℕ
  pub holds : HoldsPiece k piece end first
