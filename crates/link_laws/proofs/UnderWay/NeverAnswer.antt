-- An end of B never waits for an answer, after every list of entries: so B never takes an Accept.
use Rattle.std.proofs.Common.{Bool, List, [], false, if◌then◌else◌, refl, true, ℕ, ◌==◌, ◌∷◌, ◌≡◌}
use Rattle.pipe_model.specs.declared.reply.Reply.TheVariants.{Sent}
use Rattle.pipe_model.specs.declared.reply.SentKind.TheVariants.{Accept as AcceptSent, Confirm as ConfirmSent, ConfirmLink as LinkSent}
use Rattle.pipe_model.specs.declared.event.Event.TheVariants.{Clc, Raw, Write}
use Rattle.history_laws.specs.Words.{A, Abort, Await, B, Close, Complete, Cut, Declined, Deliver, EndState, Entry, Event, FellBack, Finish, Grow, HasFallen, Heal, IsUp, Move, NoEnd, Open, Opened, Read, Reply, Report, Reset, Swallow, Test, Trim, WaitsAnswer, WaitsLink, WaitsProposal, Wrote, after_clc, after_event, after_loss, after_raw, early_state, end_state, group_on, is_up, loses_group_with}

-- whether an end waits for an answer
abbrev pub is_answer : EndState → Bool
is_answer WaitsAnswer = true
is_answer state = false

after-if : (b : Bool) (s t : EndState) → is_answer s ≡ false → is_answer t ≡ false → is_answer (if b then s else t) ≡ false
after-if true s t p q = p
after-if false s t p q = q

clc-not : (r : Reply) (st : EndState) → is_answer st ≡ false → is_answer (after_clc r st) ≡ false
clc-not (Sent AcceptSent) st e = refl
clc-not (Sent ConfirmSent) st e = refl
clc-not (Sent LinkSent) st e = refl
clc-not (Declined lack) st e = refl
clc-not FellBack st e = refl
clc-not (Reset cause) st e = refl
clc-not r st e = e

raw-not : (st : EndState) → is_answer st ≡ false → is_answer (after_raw B st) ≡ false
raw-not NoEnd e = refl
raw-not st e = e

opens-not : (s t : ℕ) (r : Reply) (st : EndState) → is_answer st ≡ false → is_answer (after_event B s (Open t) r st) ≡ false
opens-not s t Opened st e = after-if (s == t) WaitsProposal st refl e
opens-not s t (Declined lack) st e = after-if (s == t) HasFallen st refl e
opens-not s t r st e = e

raws-not : (s t at len : ℕ) (r : Reply) (st : EndState) → is_answer st ≡ false → is_answer (after_event B s (Raw t at len) r st) ≡ false
raws-not s t at len (Wrote n) st e = after-if (s == t) (after_raw B st) st (raw-not st e) e
raws-not s t at len r st e = e

event-not : (s : ℕ) (event : Event) (r : Reply) (st : EndState) → is_answer st ≡ false → is_answer (after_event B s event r st) ≡ false
event-not s (Open t) r st e = opens-not s t r st e
event-not s (Raw t at len) r st e = raws-not s t at len r st e
event-not s (Clc t A) r st e = after-if (s == t) (after_clc r st) st (clc-not r st e) e
event-not s (Clc t B) r st e = e
event-not s (Write end at len) r st e = e
event-not s (Read end len) r st e = e
event-not s (Finish end) r st e = e
event-not s (Close end) r st e = e
event-not s (Abort end) r st e = e
event-not s (Await end) r st e = e
event-not s (Move end) r st e = e
event-not s (Deliver slot dir) r st e = e
event-not s (Complete slot dir) r st e = e
event-not s (Swallow slot dir) r st e = e
event-not s (Cut slot) r st e = e
event-not s (Heal slot) r st e = e
event-not s (Report x slot) r st e = e
event-not s Grow r st e = e
event-not s (Test x slot) r st e = e
event-not s (Trim x) r st e = e

loss-not : (b : Bool) (group : ℕ) (st : EndState) → is_answer st ≡ false → is_answer (after_loss b group st) ≡ false
loss-not true group WaitsLink e = refl
loss-not b group st e = e

early-not : (s : ℕ) (past : List Entry) → is_answer (early_state B s past) ≡ false
early-not s [] = refl
early-not s (e ∷ older) = loss-not (loses_group_with B (group_on s older) e older) (group_on s older) (after_event B s e.event e.reply (early_state B s older)) (event-not s e.event e.reply (early_state B s older) (early-not s older))

-- B's end never waits for an answer
pub never-answer : (s : ℕ) (past : List Entry) → is_answer (end_state B s past) ≡ false
never-answer s past = after-if (is_up B s past) IsUp (early_state B s past) refl (early-not s past)
