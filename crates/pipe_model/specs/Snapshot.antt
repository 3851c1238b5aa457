-- What an end tells its peer in one message, in plain numbers, and the CDC message that spells it.
-- A reader learns here what "told" and "read" mean, and how a lost message shows after a move to another link.
use Rattle.std.specs.Prelude.{◌≡◌, ℕ, ◌+◌, ◌-◌, ◌==◌, ◌&&◌, ◌||◌, not, nat_lt, Bool, false, if◌then◌else◌}
use Rattle.smc_num.specs.Numbers.{wire_number, cursor_of, is_past}
use Rattle.cdc_wire.specs.declared.CdcMessage.{CdcMessage}
use Rattle.pipe_model.specs.declared.snapshot.Snapshot.{Snapshot}
use Rattle.pipe_model.specs.Words.{same_bool}

-- what counts as told and taken before anything was: nothing, under the number before the first one
-- ours: what counts before the first message
abbrev pub first_snapshot : ℕ → Snapshot
first_snapshot number = record { number = number - 1; told = 0; read = 0; done = false; closed = false; aborted = false }

-- whether two snapshots tell the same, whatever their numbers
-- ours: a message that tells nothing new is not posted
abbrev pub tells_same : Snapshot → Snapshot → Bool
tells_same a b = ((a.told == b.told) && (a.read == b.read)) && (same_bool a.done b.done && (same_bool a.closed b.closed && same_bool a.aborted b.aborted))

-- whether the end that tells it will tell nothing after it
-- RFC 7609, 4.8
abbrev pub is_last : Snapshot → Bool
is_last s = s.closed || s.aborted

-- a flag's bit, where it is set
-- ours: a bit helper
abbrev pub flag : Bool → ℕ → ℕ
flag on bit = if on then bit else 0

-- the connection state flags of a snapshot: sending done, closed, abnormal close
-- RFC 7609, A.4
abbrev pub state_flags : Snapshot → ℕ
state_flags s = flag s.done 0x80 + (flag s.closed 0x40 + flag s.aborted 0x20)

-- the CDC message that spells a snapshot, under the receiver's token
-- RFC 7609, A.4; of the producer flags none is set: ours
abbrev pub spelled : ℕ → ℕ → Snapshot → CdcMessage
spelled size token s = record {
  number = wire_number s.number;
  token = token;
  told = cursor_of size s.told;
  read = cursor_of size s.read;
  producer = 0;
  state = state_flags s;
}

-- the validation message of a move: the number and the counts of a snapshot, with the failover flag and no other
-- RFC 7609, 4.6; which counts it tells is ours
abbrev pub validation : ℕ → ℕ → Snapshot → CdcMessage
validation size token s = record {
  number = wire_number s.number;
  token = token;
  told = cursor_of size s.told;
  read = cursor_of size s.read;
  producer = 0x08;
  state = 0;
}

-- whether a CDC message is one of validation
-- RFC 7609, A.4: the failover flag; no other producer flag is used: ours
abbrev pub is_validation : CdcMessage → Bool
is_validation m = not (m.producer == 0)

-- that a CDC message spells a snapshot
-- RFC 7609, A.4
abbrev pub Spells : ℕ → CdcMessage → Snapshot → Type 0
Spells size m s = m ≡ spelled size m.token s

-- whether a validation message of number `told` shows that a snapshot after number `taken` was lost: it is past it by
-- less than half of the circle of 16-bit numbers
-- RFC 7609, 4.6; how numbers compare that went round is ours
abbrev pub shows_gap : ℕ → ℕ → Bool
shows_gap told taken = is_past told taken

-- whether a plain number is less than half of that circle past another
-- ours: the distance within which that comparison is right
abbrev pub is_near : ℕ → ℕ → Bool
is_near told taken = nat_lt told (taken + 32_768)
