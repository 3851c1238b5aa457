-- What an end of a connection keeps, and for which plain ends it stands.
-- A reader learns here which bytes and snapshots the ring holds, and what an end knows of itself.
use Rattle.std.specs.Prelude.{◌≡◌, ℕ, ◌+◌, ◌≤◌, Bool, false, List, length, drop, map}
use Rattle.cdc_ring.specs.Rings.{Ring, last_from}
use Rattle.cdc_ring.specs.Flights.{Climbs, rising}
use Rattle.cdc_ring.specs.Kept.{Kept as KeptRing, Represents as RingRepresents}
use Rattle.pipe_model.specs.declared.snapshot.Snapshot.{Snapshot}
use Rattle.pipe_model.specs.declared.closing.Phase.{Phase}
use Rattle.pipe_model.specs.Ends.{Half}
use Rattle.pipe_model.specs.Parts.{is_shut}

-- how far an end has come, without its bytes: how many snapshots may be under way; how many bytes of its peer it has read; the
-- snapshot last taken, its own last completed one, the one against which it finds something new, and the number last used; its
-- uncompleted snapshots; how far it has come with closing, and whether it was finished
pub record Course : Type 0 where
  pub depth : ℕ
  pub read : ℕ
  pub taken : Snapshot
  pub fin : Snapshot
  pub last : Snapshot
  pub number : ℕ
  pub flight : List Snapshot
  pub phase : Phase
  pub finished : Bool

-- how far a plain end has come, which may have so many snapshots under way
abbrev pub course_of : ℕ → Half → Course
course_of depth h = record { depth = depth; read = h.rd; taken = h.taken; fin = h.fin; last = h.last; number = h.number; flight = h.flight; phase = h.phase; finished = h.finished }

-- an end that has come so far, and is as another one in all else
abbrev pub at_course : Course → Half → Half
at_course c h = record h { rd = c.read; taken = c.taken; fin = c.fin; last = c.last; number = c.number; flight = c.flight; phase = c.phase; finished = c.finished }

-- what an end keeps: the size of the peer's element, its first number, the token of its messages, whether it owes its peer a
-- validation message, its ring, how many bytes it accepted, and how far it has come
pub record Kept : Type 0 where
  pub size : ℕ
  pub first : ℕ
  pub token : ℕ
  pub owes : Bool
  pub ring : KeptRing
  pub accepted : ℕ
  pub course : Course

-- how many bytes each of the snapshots tells
abbrev pub tolds : List Snapshot → List ℕ
tolds ss = map (λ s. s.told) ss

-- the ring of an end: the bytes that have not completed, and a posting for each snapshot under way that told more
abbrev pub ring_of : ℕ → List ℕ → Course → Ring
ring_of size bytes c = record { size = size; completed = c.fin.told; bytes = bytes; posted = rising c.fin.told (tolds c.flight); acked = c.taken.read }

-- what holds of every end: its ring holds what it accepted and has not completed, its snapshots under way tell no less than
-- those before them, up to the last one, and while it may still hand out bytes it has read no more than it was told
pub record IsWhole (size : ℕ) (bytes : KeptRing) (count : ℕ) (c : Course) : Type 0 where
  pub few : length c.flight ≤ c.depth
  pub most : c.depth ≤ 8
  pub ring : RingRepresents bytes (ring_of size bytes.bytes c)
  pub counted : c.fin.told + length bytes.bytes ≡ count
  pub climbs : Climbs c.fin.told (tolds c.flight)
  pub last : last_from c.fin.told (tolds c.flight) ≡ c.last.told
  pub reads : is_shut c.phase ≡ false → c.read ≤ c.taken.told

-- that of what is kept
abbrev pub IsKept : Kept → Type 0
IsKept k = IsWhole k.size k.ring k.accepted k.course

-- that what is kept agrees with what a plain end knows of itself
pub record Agrees (size : ℕ) (ring : KeptRing) (count : ℕ) (c : Course) (all : List ℕ) (rd : ℕ) (from_peer completed against : Snapshot) (numbered : ℕ) (under_way : List Snapshot) (stage : Phase) (ended : Bool) : Type 0 where
  pub whole : IsWhole size ring count c
  pub accepted : count ≡ length all
  pub bytes : ring.bytes ≡ drop completed.told all
  pub read : c.read ≡ rd
  pub taken : c.taken ≡ from_peer
  pub fin : c.fin ≡ completed
  pub last : c.last ≡ against
  pub number : c.number ≡ numbered
  pub flight : c.flight ≡ under_way
  pub phase : c.phase ≡ stage
  pub finished : c.finished ≡ ended

-- that what is kept stands for a plain end; its links and its posted messages are its owner's
abbrev pub Represents : Kept → Half → Type 0
Represents k h = Agrees k.size k.ring k.accepted k.course h.out h.rd h.taken h.fin h.last h.number h.flight h.phase h.finished

-- that an end keeps what does not come of calls and news
pub record SameTerms (old new : Kept) : Type 0 where
  pub size : new.size ≡ old.size
  pub depth : new.course.depth ≡ old.course.depth
  pub first : new.first ≡ old.first
  pub token : new.token ≡ old.token

-- that an end is as new, for an element of so many bytes and so many snapshots under way, from a number on, with a token
pub record IsNew (bytes most number label : ℕ) (k : Kept) : Type 0 where
  pub size : k.size ≡ bytes
  pub depth : k.course.depth ≡ most
  pub first : k.first ≡ number
  pub token : k.token ≡ label
  pub owes : k.owes ≡ false
