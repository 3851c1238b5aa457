-- The private pipe of one connection: its two ends alone, with no other connection, no link and no manager between them.
-- A reader learns here what each call on an established end must be told, and what the two ends post, from their own
-- calls, the fates of their links, and which of their messages land and complete.
use Rattle.std.specs.Prelude.{ℕ, ◌&&◌, ◌||◌, not, Bool, true, false, List, [], ◌∷◌, ◌++◌, length, drop, Option, Some, None}
use Rattle.smc_num.specs.declared.Side.{Side}
use Rattle.smc_num.specs.declared.Side.TheVariants.{A, B}
use Rattle.smc_num.specs.declared.LinkId.{LinkId}
use Rattle.smc_num.specs.declared.LinkPhase.{LinkPhase}
use Rattle.smc_num.specs.Names.{other, head}
use Rattle.pipe_model.specs.Snapshot.{is_near}
use Rattle.pipe_model.specs.Closing.{cause_of}
use Rattle.pipe_model.specs.Ends.{Half, Sent, fresh, settle, is_over, comes_up, meets_fate, loses_group, to_land, to_complete, lands, takes, completes}
use Rattle.pipe_model.specs.Calls.{Call, Told, calls, half_told}

-- what concerns a connection: a link of its group becomes live or dead at a side, the group ends there, an end is established
-- on a link, its application calls, and the next message of an end lands, or completes
-- ours: all that a connection can learn
pub data Item : Type 0 where
  Fate : Side → LinkId → LinkPhase → Item
  GroupEnd : Side → Item
  Up : Side → LinkId → Item
  Calls : Side → Call → Item
  Lands : Side → Item
  Completes : Side → Item

-- what a connection is made with: the size of its elements, how many snapshots of an end may be uncompleted, the first number
-- ours: what a setup fixes for a connection
pub record Terms : Type 0 where
  pub size : ℕ
  pub depth : ℕ
  pub number : ℕ

-- the two ends of a connection
-- ours: a connection without its fabric
pub record Pipe : Type 0 where
  pub a : Half
  pub b : Half

-- one of the ends
-- ours: a choice by side
abbrev pub half : Side → Pipe → Half
half A p = p.a
half B p = p.b

-- the pipe with another end at a side
-- ours: a choice by side
abbrev pub with_half : Side → Half → Pipe → Pipe
with_half A h p = record p { a = h }
with_half B h p = record p { b = h }

-- the next message of the end at a side lands at its peer
-- ours: the fabric in memory keeps the order of the posts
abbrev pub lands_from : Side → Pipe → Pipe
lands_from x p = with_half (other x) (takes (head (to_land (half x p))) (half (other x) p)) (with_half x (lands (half x p)) p)

-- what one item does
-- ours: a case for each item
abbrev pub apply : ℕ → Item → Pipe → Pipe
apply size (Fate x link phase) p = with_half x (meets_fate link phase (half x p)) p
apply size (GroupEnd x) p = with_half x (loses_group (half x p)) p
apply size (Up x link) p = with_half x (comes_up link (half x p)) p
apply size (Calls x call) p = with_half x (calls size call (half x p)) p
apply size (Lands x) p = lands_from x p
apply size (Completes x) p = with_half x (completes (head (to_complete (half x p))) (half x p)) p

-- one item, and what becomes due with it
-- ours: the two ends as a machine
abbrev pub step : Terms → Item → Pipe → Pipe
step t item p = let q = apply t.size item p in record { a = settle t.depth q.a; b = settle t.depth q.b }

-- the pipe after a part of a history, whose newest item comes first
-- ours: the two ends as a machine
abbrev pub pipe : Terms → List Item → Pipe
pipe t [] = record { a = fresh t.number; b = fresh t.number }
pipe t (item ∷ items) = step t item (pipe t items)

-- what a call at a side is told, by the pipe before it
-- ours: what the application is told
abbrev pub told : Terms → Side → Call → Pipe → Told
told t x call p = half_told t.size call (half x p) (half (other x) p).out (cause_of (half x p).phase)

-- the messages that an end has posted since
-- ours: what the machine posts
abbrev pub sent_since : Half → Half → List Sent
sent_since before after = drop (length before.sent) after.sent

-- the messages that a side posts with some news, the newest item first, after a part
-- ours: what the machine posts
abbrev pub posts_of : Terms → Side → List Item → List Item → List Sent
posts_of t x news items = sent_since (half x (pipe t items)) (half x (pipe t (news ++ items)))

-- whether a message is no validation that its taker may misjudge: its number is near what was taken
-- ours: where 16-bit numbers tell a gap rightly
abbrev pub is_near_at : Option Sent → Half → Bool
is_near_at None taker = true
is_near_at (Some m) taker = (not m.check || is_over taker) || is_near m.snapshot.number taker.taken.number

-- whether an item is no landing of such a validation
-- ours: where 16-bit numbers tell a gap rightly
abbrev pub lands_near : Item → Pipe → Bool
lands_near (Lands x) p = is_near_at (head (to_land (half x p))) (half (other x) p)
lands_near _ p = true

-- whether all validation messages of a part were near
-- ours: where 16-bit numbers tell a gap rightly
abbrev pub is_near_part : Terms → List Item → Bool
is_near_part t [] = true
is_near_part t (item ∷ items) = is_near_part t items && lands_near item (pipe t items)
