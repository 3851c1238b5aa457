-- Which parts of a history a connection can have, and what then holds of its two ends.
-- A reader learns here in which order messages land and complete, and what never goes wrong between told, completed, taken
-- and read bytes, whatever else happens to the two ends.
use Rattle.std.specs.Prelude.{◌≡◌, ℕ, ◌+◌, ◌==◌, ◌<◌, ◌≤◌, ◌⊎◌, ◌&&◌, ◌||◌, not, nat_lt, max, Bool, true, false, if◌then◌else◌, List, [], ◌∷◌, length, Option, Some, None, is_some}
use Rattle.smc_num.specs.declared.Side.{Side}
use Rattle.smc_num.specs.Names.{same_side, head}
use Rattle.pipe_model.specs.declared.snapshot.Snapshot.{Snapshot}
use Rattle.pipe_model.specs.Snapshot.{is_last}
use Rattle.pipe_model.specs.Closing.{Phase, cause_of, is_closing}
use Rattle.pipe_model.specs.Ends.{Half, Sent, is_due, is_due_for_move, to_land, to_complete}
use Rattle.pipe_model.specs.Calls.{Moves}
use Rattle.pipe_model.specs.Pipe.{Item, Fate, GroupEnd, Up, Calls, Lands, Completes, Terms, Pipe, half, pipe}

-- the side of the end that acts: of a message the one that sent it
-- ours: a case for each item
abbrev pub actor : Item → Side
actor (Fate x link phase) = x
actor (GroupEnd x) = x
actor (Up x link) = x
actor (Calls x call) = x
actor (Lands x) = x
actor (Completes x) = x

-- whether the message of an end that is next to complete is swallowed by it: it has not landed
-- ours: a message that counts as completed and never landed
abbrev pub is_swallowed : Half → Bool
is_swallowed h = h.completed == h.landed

-- whether the way of an end's messages is broken after an item of its own: a message was swallowed; a move takes another way
-- ours: a message that counts as completed and never landed
abbrev pub broken_after : Item → Half → Bool → Bool
broken_after (Completes x) h broken = broken || is_swallowed h
broken_after (Calls x Moves) h broken = broken && not (is_due_for_move h)
broken_after _ h broken = broken

-- whether the way of an end's messages is broken after a part: one of them was swallowed since the end last moved
-- ours: a message that counts as completed and never landed
abbrev pub is_broken : Terms → Side → List Item → Bool
is_broken t x [] = false
is_broken t x (item ∷ items) = if same_side x (actor item) then broken_after item (half x (pipe t items)) (is_broken t x items) else is_broken t x items

-- whether an item is a swallow
-- ours: a message that counts as completed and never landed
abbrev pub swallows : Item → Pipe → Bool
swallows (Completes x) p = is_swallowed (half x p)
swallows _ p = false

-- whether one of the messages of a part was swallowed
-- ours: a message that counts as completed and never landed
abbrev pub has_swallow : Terms → List Item → Bool
has_swallow t [] = false
has_swallow t (item ∷ items) = has_swallow t items || swallows item (pipe t items)

-- that an item can come next: a message lands that is under way on a way that isn't broken, and one completes that has not
-- ours: messages land and complete in the order of their posts
abbrev pub CanFollow : Item → Half → Bool → Type 0
CanFollow (Lands x) h broken = (h.landed < length h.sent) × (broken ≡ false)
CanFollow (Completes x) h broken = h.completed < length h.sent
CanFollow _ h broken = Unit {0}

-- that a part, whose newest item comes first, can be
-- ours: messages land and complete in the order of their posts
abbrev pub IsFeasible : Terms → List Item → Type 0
IsFeasible t [] = Unit {0}
IsFeasible t (item ∷ items) = CanFollow item (half (actor item) (pipe t items)) (is_broken t (actor item) items) × IsFeasible t items

-- what was told, completed, taken and read of the bytes of an end x, by x and by its peer y; what x accepted fits into the
-- window, which needs both the read count that x has taken and the bytes of x that have completed
-- ours: what holds of the counts
pub record IsCounted (size : ℕ) (x y : Half) : Type 0 where
  pub completed : x.fin.told ≤ x.last.told
  pub told : x.last.told ≤ length x.out
  pub window_of_read : length x.out ≤ x.taken.read + size
  pub window_of_completed : length x.out ≤ x.fin.told + size
  pub taken : y.taken.told ≤ length x.out
  pub taken_fits : y.taken.told ≤ y.rd + size
  pub accepted_fits : length x.out ≤ y.rd + size
  pub read : y.rd ≤ length x.out
  pub read_told : (y.taken.aborted ≡ true) ⊎ (y.rd ≤ y.taken.told)
  pub read_taken : x.taken.read ≤ y.rd
  pub completed_number : x.fin.number ≤ x.last.number
  pub last_number : x.last.number ≤ x.number
  pub taken_number : y.taken.number ≤ x.number

-- the snapshots among messages
-- ours: a list helper
abbrev pub snapshots : List Sent → List Snapshot
snapshots [] = []
snapshots (m ∷ ms) = if m.check then snapshots ms else m.snapshot ∷ snapshots ms

-- that a snapshot tells more than another: under a greater number no less of anything
-- ours: what holds of the messages under way
abbrev pub TellsMore : Snapshot → Snapshot → Type 0
TellsMore s r = (s.number < r.number) × (s.told ≤ r.told) × (s.read ≤ r.read)

-- that from a first snapshot on each one tells more, up to a last one
-- ours: what holds of the messages under way
abbrev pub Climbs : Snapshot → List Snapshot → Snapshot → Type 0
Climbs first [] last = first ≡ last
Climbs first (s ∷ ss) last = TellsMore first s × Climbs s ss last

-- that their numbers rise by one, up to a last number
-- ours: what holds of the messages under way
abbrev pub CountUp : List Snapshot → ℕ → Type 0
CountUp [] last = Unit {0}
CountUp (s ∷ ss) last = (s.number + length ss ≡ last) × CountUp ss last

-- the flight of an end: its snapshots that have not completed, as they were posted, from the last completed one to the last
-- posted one, and never too many
-- ours: what holds of one end
pub record IsFlying (depth : ℕ) (h : Half) : Type 0 where
  pub uncompleted : h.flight ≡ snapshots (to_complete h)
  pub few : length h.flight ≤ depth
  pub climbs : Climbs h.fin h.flight h.last
  pub numbers : CountUp h.flight h.number

-- the marks of an end: what has completed has landed, or was swallowed, and what has landed was sent
-- ours: what holds of one end
pub record IsMarked (h : Half) : Type 0 where
  pub completed_landed : h.completed ≤ h.landed
  pub landed_sent : h.landed ≤ length h.sent

-- that nothing is due
-- ours: what holds of one end
abbrev pub IsSettled : ℕ → Half → Type 0
IsSettled depth h = is_due depth h ≡ false

-- that an end y may take a snapshot of its peer: its number is past the one that was taken; it reads no less than was taken,
-- and no more than y accepted; its bytes fit into y's element behind those that y has read; and it tells no less than was
-- taken, but for an aborted one, which may tell less by at most an element
-- ours: what holds of a message that lands
pub record MayTake (size : ℕ) (s : Snapshot) (y : Half) : Type 0 where
  pub number_rises : y.taken.number < s.number
  pub reads_on : y.taken.read ≤ s.read
  pub reads_accepted : s.read ≤ length y.out
  pub fits : s.told ≤ y.rd + size
  pub tells_on : (s.aborted ≡ true) ⊎ (y.taken.told ≤ s.told)
  pub tells_near : y.taken.told ≤ s.told + size

-- that closed was told only once all bytes had completed, of which no more come
-- ours: what RFC 7609, 4.8 leaves to the sender
abbrev pub ClosesBehindAll : Half → Type 0
ClosesBehindAll h = h.last.closed ≡ true → h.fin.told ≡ length h.out

-- whether it is reset, or close was called: it hands out no more bytes
-- ours: a word on phases
abbrev pub is_shut : Phase → Bool
is_shut phase = is_some (cause_of phase) || is_closing phase

-- that an end which still hands out bytes has read no more than was told
-- ours: what holds of one end
abbrev pub ReadsTold : Half → Type 0
ReadsTold h = is_shut h.phase ≡ false → h.rd ≤ h.taken.told

-- that something holds of each of the messages
-- ours: a list helper
abbrev pub EachOf : (Sent → Type 0) → List Sent → Type 0
EachOf P [] = Unit {0}
EachOf P (m ∷ ms) = P m × EachOf P ms

-- that a message carries no bytes
-- ours: what holds of the messages under way
abbrev pub CarriesNone : Sent → Type 0
CarriesNone m = m.from ≡ m.snapshot.told

-- that a message carries bytes of those that its end accepted, no more than an element holds; a validation message and an
-- aborted snapshot carry none
-- ours: what holds of the messages under way
pub record CarriesFew (size accepted : ℕ) (m : Sent) : Type 0 where
  pub forward : m.from ≤ m.snapshot.told
  pub few : m.snapshot.told ≤ m.from + size
  pub within : m.snapshot.told ≤ accepted
  pub check : m.check ≡ true → CarriesNone m
  pub aborted : m.snapshot.aborted ≡ true → CarriesNone m

-- whether one of the messages tells a last snapshot, closed or aborted
-- ours: a list helper
abbrev pub has_last : List Sent → Bool
has_last [] = false
has_last (m ∷ ms) = is_last m.snapshot || has_last ms

-- that an end has told its last snapshot
-- RFC 7609, 4.8
abbrev pub HasToldLast : Half → Type 0
HasToldLast h = has_last h.sent ≡ true

-- that once y has taken the last snapshot of x, closed or aborted, no message of x under way to it carries bytes
-- ours: nothing is written behind a last message
abbrev pub EndsWithLast : Half → Half → Type 0
EndsWithLast x y = is_last y.taken ≡ true → EachOf CarriesNone (to_land x)

-- how far an end's bytes have landed without a hole, where they had come so far before a message
-- ours: bytes land without a hole
abbrev pub covered_after : Option Sent → ℕ → ℕ
covered_after None n = n
covered_after (Some m) n = if m.check || nat_lt n m.from then n else max n m.snapshot.told

-- how far the bytes of the end at a side have landed without a hole
-- ours: bytes land without a hole
abbrev pub covered : Terms → Side → List Item → ℕ
covered t x [] = 0
covered t x (Lands y ∷ items) = if same_side x y then covered_after (head (to_land (half x (pipe t items)))) (covered t x items) else covered t x items
covered t x (item ∷ items) = covered t x items

-- that an end which still hands out bytes has got all that it was told: so far its peer's bytes have landed without a hole
-- ours: bytes land without a hole
abbrev pub HasAllTold : ℕ → Half → Type 0
HasAllTold landed y = is_shut y.phase ≡ false → landed ≡ y.taken.told

-- that the bytes of a snapshot go on where those that y was told end, or begin among them; an aborted one carries none
-- ours: bytes land without a hole
abbrev pub GoesOn : Sent → Half → Type 0
GoesOn m y = is_shut y.phase ≡ false → (m.snapshot.aborted ≡ true) ⊎ (m.from ≤ y.taken.told)
