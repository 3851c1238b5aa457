-- What the plain program's own types stand for: the calls and answers of the definitions, and a pipe with its terms.
-- A reader learns here that nothing but the form differs, and why no number of an end runs over.
use Rattle.std.specs.Prelude.{ℕ, ◌+◌, ◌≤◌, []}
use Rattle.pipe_model.specs.declared.plain.asked.PlainCall.{PlainCall}
use Rattle.pipe_model.specs.declared.plain.asked.PlainCall.TheVariants.{Write, Read, Finish, Close, Abort, Await, Move}
use Rattle.pipe_model.specs.declared.plain.asked.PlainTold.{PlainTold}
use Rattle.pipe_model.specs.declared.plain.asked.PlainTold.TheVariants.{Answer, HandsOut}
use Rattle.pipe_model.specs.Calls.{Call, Writes, Reads, Finishes, Closes, Aborts, Awaits, Moves, Told, Plain, Hands}
use Rattle.pipe_model.specs.Ends.{settle}
use Rattle.pipe_model.specs.Pipe.{Terms, Pipe, Item, pipe, step}

-- the call that it stands for
-- ours: what the plain program's types stand for
abbrev pub call_of : PlainCall → Call
call_of (Write bytes) = Writes bytes.now
call_of (Read n) = Reads n
call_of Finish = Finishes
call_of Close = Closes
call_of Abort = Aborts
call_of Await = Awaits
call_of Move = Moves

-- the answer that it stands for
-- ours: what the plain program's types stand for
abbrev pub told_of : PlainTold → Told
told_of (Answer reply) = Plain reply
told_of (HandsOut bytes) = Hands bytes.items

-- a pipe with the terms of its connection
-- ours: what the plain program's types stand for
pub record Run : Type 0 where
  pub terms : Terms
  pub ends : Pipe

-- the pipe before anything concerned it
-- ours: what the plain program's types stand for
abbrev pub begun : Terms → Run
begun t = record { terms = t; ends = pipe t [] }

-- after one item, and what becomes due with it
-- ours: what the plain program's types stand for
abbrev pub after : Item → Run → Run
after item run = record run { ends = step run.terms item run.ends }

-- after what is due was posted
-- ours: what the plain program's types stand for
abbrev pub settled : Run → Run
settled run = record run { ends = record { a = settle run.terms.depth run.ends.a; b = settle run.terms.depth run.ends.b } }

-- the number last used, and how many messages have arrived, against how many were posted; the first number has 16 bits
-- ours: why no number of the plain program runs over
pub record IsCounted (posted number arrived : ℕ) : Type 0 where
  pub numbered : number ≤ posted + 65_536
  pub posted_first : arrived ≤ posted
