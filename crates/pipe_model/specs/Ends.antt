-- One end of a connection: what it keeps, what it would tell its peer now, and when it posts that.
-- A reader learns here the window, the batch rule, and what landing, completion and a move do to an end.
use Rattle.std.specs.Prelude.{ℕ, ◌+◌, ◌-◌, ◌==◌, ◌&&◌, not, nat_lt, min, max, Bool, true, false, if◌then◌else◌, List, [], ◌∷◌, ◌++◌, length, drop, filter, Option, Some, None, is_some, unwrap_or}
use Rattle.smc_num.specs.declared.LinkId.{LinkId}
use Rattle.smc_num.specs.declared.LinkPhase.{LinkPhase}
use Rattle.smc_num.specs.declared.LinkPhase.TheVariants.{Live}
use Rattle.smc_num.specs.Names.{same_link, has_link, no_link, head}
use Rattle.smc_num.specs.Numbers.{wire_number}
pub use Rattle.pipe_model.specs.declared.sent.Sent.{Sent}
use Rattle.pipe_model.specs.declared.snapshot.Snapshot.{Snapshot}
use Rattle.pipe_model.specs.declared.reply.ResetCause.{ResetCause}
use Rattle.pipe_model.specs.declared.reply.ResetCause.TheVariants.{PeerAbort, Gap}
use Rattle.pipe_model.specs.Snapshot.{first_snapshot, tells_same, is_last, shows_gap}
use Rattle.pipe_model.specs.Closing.{Phase, Open, cause_of, is_closing, is_group_gone, struck, ended_with, after_posting, after_completing, after_moving, may_move}

-- one end: whether it is established, its link, the live links of its group, lowest slot first, and whether its group stands;
-- all bytes that it accepted, and how many bytes of its peer it has read; the snapshot last taken from its peer, its own
-- last completed one, the one against which it finds something new, and the number last used; its uncompleted snapshots;
-- how far it has come with closing, and whether it was finished; all messages that it posted, and how many of them have
-- landed and completed, with those that a move left behind
-- ours: what an end keeps, in numbers that never wrap
pub record Half : Type 0 where
  pub up : Bool
  pub link : LinkId
  pub live : List LinkId
  pub stands : Bool
  pub out : List ℕ
  pub rd : ℕ
  pub taken : Snapshot
  pub fin : Snapshot
  pub last : Snapshot
  pub number : ℕ
  pub flight : List Snapshot
  pub phase : Phase
  pub finished : Bool
  pub sent : List Sent
  pub landed : ℕ
  pub completed : ℕ

-- an end before anything concerned it
-- ours: what counts before the first news
abbrev pub fresh : ℕ → Half
fresh number = record {
  up = false;
  link = no_link;
  live = [];
  stands = true;
  out = [];
  rd = 0;
  taken = first_snapshot number;
  fin = first_snapshot number;
  last = first_snapshot number;
  number = number - 1;
  flight = [];
  phase = Open;
  finished = false;
  sent = [];
  landed = 0;
  completed = 0;
}

-- how many bytes more it may accept: the peer's element has room behind the bytes that were read and whose place is
-- known to be free, as the peer told, and that have completed
-- RFC 7609, 4.7 for the room behind the read bytes; that told ones must have completed is ours
abbrev pub window : ℕ → Half → ℕ
window size h = size - (length h.out - min h.taken.read h.fin.told)

-- how many told bytes it has not read
-- RFC 7609, 4.7
abbrev pub unread : Half → ℕ
unread h = h.taken.told - h.rd

-- whether both ends have told their last snapshot: its own has completed, and the peer's has landed
-- RFC 7609, 4.8; that it waits for completion is ours
abbrev pub is_over : Half → Bool
is_over h = is_last h.fin && is_last h.taken

-- what it would tell now: closed only once all bytes have completed, and after a reset no more bytes
-- RFC 7609, A.4; when closed is told is ours
abbrev pub present : Half → Snapshot
present h = let reset : Bool = is_some (cause_of h.phase) in record {
  number = h.number + 1;
  told = if reset then h.last.told else length h.out;
  read = h.rd;
  done = h.finished;
  closed = is_closing h.phase && (h.fin.told == length h.out);
  aborted = reset;
}

-- whether it has something new to tell, and may tell it now: its link is live, and the flight is not full
-- ours: an end tells what is new as soon as it may
abbrev pub is_due : ℕ → Half → Bool
is_due depth h = (h.up && not (is_group_gone h.phase)) && (has_link h.link h.live && (nat_lt (length h.flight) depth && not (tells_same (present h) h.last)))

-- the message that a due end posts; an aborted snapshot carries no bytes
-- RFC 7609, 4.7: bytes are written before they are told; the rule when is ours
abbrev pub batch : Half → Sent
batch h = record { link = h.link; check = false; from = if (present h).aborted then (present h).told else h.last.told; snapshot = present h }

-- the end after it has posted what was due
-- ours: an end tells what is new as soon as it may
abbrev pub posts_batch : Half → Half
posts_batch h = record h { last = present h; number = h.number + 1; flight = h.flight ++ present h ∷ []; phase = after_posting (present h) h.phase; sent = h.sent ++ batch h ∷ [] }

-- what is due is posted
-- ours: an end tells what is new as soon as it may
abbrev pub settle : ℕ → Half → Half
settle depth h = if is_due depth h then posts_batch h else h

-- it is established on a link
-- RFC 7609, 3.5
abbrev pub comes_up : LinkId → Half → Half
comes_up link h = record h { up = true; link = link }

-- the links by slot, with one more
-- ours: a list helper
abbrev pub with_link : LinkId → List LinkId → List LinkId
with_link link [] = link ∷ []
with_link link (l ∷ ls) = if nat_lt link.slot l.slot then link ∷ l ∷ ls else l ∷ with_link link ls

-- a link of its group becomes live at its side, or stops being so
-- ours: what a side holds of a link
abbrev pub meets_fate : LinkId → LinkPhase → Half → Half
meets_fate link Live h = record h { live = with_link link h.live }
meets_fate link _ h = record h { live = filter (λ l. not (same_link link l)) h.live }

-- its group ends at its side
-- ours: the group ends with its last link
abbrev pub loses_group : Half → Half
loses_group h = record h { stands = false; phase = ended_with h.link.group h.phase }

-- a peer's abort or a gap strikes it; of an end that is not up nothing can be asked, so that it shows once it is
-- RFC 7609, 4.8 (an abort) and 4.6 (a gap)
abbrev pub strikes : ResetCause → Half → Half
strikes cause h = record h { phase = struck cause h.phase }

-- its messages that have not landed, and those that have not completed, the oldest first
-- ours: the fabric in memory
abbrev pub to_land : Half → List Sent
to_land h = drop h.landed h.sent

-- its messages that have not completed, the oldest first
-- ours: the fabric in memory
abbrev pub to_complete : Half → List Sent
to_complete h = drop h.completed h.sent

-- its next message leaves it for the peer
-- ours: the fabric in memory
abbrev pub lands : Half → Half
lands h = record h { landed = h.landed + 1 }

-- it takes a snapshot of its peer
-- RFC 7609, 4.7
abbrev pub takes_snapshot : Snapshot → Half → Half
takes_snapshot s h = let taken : Half = record h { taken = s } in if s.aborted then strikes PeerAbort taken else taken

-- it takes a validation message of its peer
-- RFC 7609, 4.6
abbrev pub validates : ℕ → Half → Half
validates told h = if shows_gap told h.taken.number then strikes (Gap (wire_number told) (wire_number h.taken.number)) h else h

-- a CDC message of the peer lands; once the end is over, its token names nothing, and the message is dropped
-- ours: a token names nothing once its lending has ended
abbrev pub takes : Option Sent → Half → Half
takes None h = h
takes (Some m) h = if is_over h then h else if m.check then validates m.snapshot.number h else takes_snapshot m.snapshot h

-- one message more has completed; one that is swallowed counts as landed too
-- ours: the fabric in memory
abbrev pub counts_completed : Half → Half
counts_completed h = record h { landed = max h.landed (h.completed + 1); completed = h.completed + 1 }

-- its oldest uncompleted message completes; of a validation message nothing follows
-- ours: the fabric in memory
abbrev pub completes : Option Sent → Half → Half
completes None h = h
completes (Some m) h = if m.check then counts_completed h else record (counts_completed h) { fin = m.snapshot; flight = drop 1 h.flight; phase = after_completing m.snapshot h.phase }

-- the lowest live link, or its own where there is none
-- ours: the RFC leaves open which link a connection goes to
abbrev pub lowest_link : Half → LinkId
lowest_link h = unwrap_or (head h.live) h.link

-- whether it may move to another link: its own is not live
-- RFC 7609, 4.6; what a move leaves behind is ours
abbrev pub is_due_for_move : Half → Bool
is_due_for_move h = (h.up && h.stands) && (not (has_link h.link h.live) && may_move h.phase)

-- the validation message of a move: the last completed snapshot with the present read count
-- RFC 7609, 4.6; which counts it tells is ours
abbrev pub check : Half → Sent
check h = record { link = lowest_link h; check = true; from = h.fin.told; snapshot = record { number = h.fin.number; told = h.fin.told; read = h.rd; done = false; closed = false; aborted = false } }

-- a move leaves behind what has not completed, and goes on from the last completed snapshot
-- RFC 7609, 4.6; what a move leaves behind is ours
abbrev pub moves : Half → Half
moves h = if is_due_for_move h then record h {
  link = lowest_link h;
  last = h.fin;
  flight = [];
  phase = after_moving h.phase;
  sent = h.sent ++ check h ∷ [];
  landed = length h.sent;
  completed = length h.sent;
} else h
