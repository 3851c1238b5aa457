-- How a CDC message is read back in plain numbers by an end that knows an earlier snapshot.
-- A reader learns here how far number and counts may have moved on so that 16 bits and a cursor still tell them.
use Rattle.std.specs.Prelude.{ℕ, ◌+◌, ◌-◌, ◌*◌, ◌/◌, ◌%◌, ◌==◌, ◌<◌, ◌≤◌, nat_lt, Bool, if◌then◌else◌}
use Rattle.smc_num.specs.declared.Cursor.{Cursor}
use Rattle.cdc_wire.specs.declared.CdcMessage.{CdcMessage}
use Rattle.pipe_model.specs.declared.snapshot.Snapshot.{Snapshot}

-- the least number from a base on that stands at this place of a circle of so many numbers
-- ours: how numbers that went round are read back
abbrev pub least_from : ℕ → ℕ → ℕ → ℕ
least_from circle base place = (base - base % circle) + ((if nat_lt place (base % circle) then circle else 0) + place)

-- the place of a cursor on the circle of all cursors
-- ours: how numbers that went round are read back
abbrev pub on_circle : ℕ → Cursor → ℕ
on_circle size cursor = cursor.wrap * size + cursor.count

-- the plain number from a base on that a 16-bit number stands for
-- ours: how numbers that went round are read back
abbrev pub number_from : ℕ → ℕ → ℕ
number_from base wire = least_from 65_536 base wire

-- the plain count from a base on that a cursor stands for
-- ours: how numbers that went round are read back
abbrev pub count_from : ℕ → ℕ → Cursor → ℕ
count_from size base cursor = least_from (65_536 * size) base (on_circle size cursor)

-- whether a flag of this bit is among the state flags
-- RFC 7609, A.4
abbrev pub has_flag : ℕ → ℕ → Bool
has_flag bit state = (state / bit % 2) == 1

-- the snapshot that a CDC message tells an end which has taken an earlier one
-- RFC 7609, A.4; how numbers that went round are read back is ours
abbrev pub read_snapshot : ℕ → Snapshot → CdcMessage → Snapshot
read_snapshot size taken m = record {
  number = number_from taken.number m.number;
  told = count_from size (taken.told - size) m.told;
  read = count_from size taken.read m.read;
  done = has_flag 0x80 m.state;
  closed = has_flag 0x40 m.state;
  aborted = has_flag 0x20 m.state;
}

-- that a snapshot is within the distances from one that was taken: its counts have moved on by less than they need to come round, where
-- the told count may have gone back by at most an element. Of its number 16 bits are told and no more
-- ours: the distances within which the fields of RFC 7609, A.4 are read back rightly
pub record IsWithin (size : ℕ) (taken s : Snapshot) : Type 0 where
  pub told : taken.told ≤ s.told + size
  pub told_near : s.told + size < taken.told + 65_536 * size
  pub read : taken.read ≤ s.read
  pub read_near : s.read < taken.read + 65_536 * size
