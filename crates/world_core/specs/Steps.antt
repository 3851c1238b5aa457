-- What a world is seen as, and what each event does to it.
-- A reader learns here that a step adds one entry with what the definitions give after the history before it, when it is refused,
-- and which event is the next one that would do something.
use Rattle.std.specs.Prelude.{ℕ, ◌+◌, nat_le, nat_lt, Bool, true, false, if◌then◌else◌, List, [], ◌∷◌, ◌++◌, length, reverse, Option, Some, None, option_to_list, Result, Ok, Err}
use Rattle.std.specs.List.{find, flat_map}
use Rattle.smc_num.specs.declared.Side.TheVariants.{A, B}
use Rattle.smc_num.specs.Names.{up_to}
use Rattle.pipe_model.specs.declared.setup.Setup.{Setup}
use Rattle.pipe_model.specs.declared.setup.Room.{Room}
use Rattle.pipe_model.specs.declared.entry.Entry.{Entry}
use Rattle.pipe_model.specs.declared.event.Event.{Event}
use Rattle.pipe_model.specs.declared.event.Event.TheVariants.{Open, Clc, Deliver, Complete}
use Rattle.pipe_model.specs.declared.reply.Reply.{Reply}
use Rattle.pipe_model.specs.declared.reply.Reply.TheVariants.{Opened, Held, Idle}
use Rattle.pipe_model.specs.declared.entry.StepFault.{StepFault}
use Rattle.pipe_model.specs.declared.entry.StepFault.TheVariants.{Spent, BytesSpent}
use Rattle.pipe_model.specs.Calls.{Told, Plain}
use Rattle.pipe_model.specs.Replies.{told}
use Rattle.pipe_model.specs.Lawful.{reply_of, posted, IsStep}
use Rattle.world_core.specs.Played.{handed}
use Rattle.world_core.specs.Heard.{told_bytes}

-- what contracts see of a world: what was set, what has happened, and what was handed out
pub record Seen : Type 0 where
  pub setup : Setup
  pub payload : List ℕ
  pub room : Room
  pub history : List Entry
  pub heard : List ℕ

-- a world in which nothing has happened
abbrev pub fresh_world : Setup → List ℕ → Room → Seen
fresh_world setup payload room = record { setup = setup; payload = payload; room = room; history = []; heard = [] }

-- its history with the newest entry first
abbrev pub past : Seen → List Entry
past w = reverse w.history

-- what an event is told, by the definitions, after the history
abbrev pub told_by : Seen → Event → Told
told_by w event = told w.setup w.payload (past w) event

-- the entry of an actor's event after a history, where so many bytes were handed out before: reply and posts are what the
-- definitions give
abbrev pub entry_of : Setup → List ℕ → List Entry → ℕ → ℕ → Event → Entry
entry_of setup payload before heard actor event = record {
  actor = actor;
  event = event;
  reply = reply_of heard (told setup payload before event);
  posts = posted setup payload before heard event;
}

-- that the entry of an actor's event is a lawful step after the first world, with the bytes that the second has handed out
abbrev pub IsLawfulStep : ℕ → Event → Seen → Seen → Type 0
IsLawfulStep actor event old new =
    IsStep old.setup old.payload (past old) old.heard (entry_of old.setup old.payload (past old) (length old.heard) actor event) new.heard

-- why a step is refused, if it is: all entries are in use, or else too few bytes are left
abbrev pub refusal : Seen → Event → Option StepFault
refusal w event =
    if nat_le w.room.entries (length w.history) then Some (Spent w.room.entries) else
    if nat_lt w.room.bytes (length w.heard + handed (told_by w event)) then Some (BytesSpent w.room.bytes) else None

-- the reply to an event
abbrev pub reply_to : Seen → Event → Reply
reply_to w event = reply_of (length w.heard) (told_by w event)

-- the world with one entry more
abbrev pub stepped : ℕ → Event → Seen → Seen
stepped actor event w = record w {
  history = w.history ++ entry_of w.setup w.payload (past w) (length w.heard) actor event ∷ [];
  heard = w.heard ++ told_bytes (told_by w event);
}

-- a step's answer and the world after it; a refused step changes nothing
abbrev pub answer_or : Option StepFault → Reply → Result Reply StepFault
answer_or None reply = Ok reply
answer_or (Some fault) reply = Err fault

abbrev pub world_or : Option StepFault → Seen → Seen → Seen
world_or None new old = new
world_or (Some fault) new old = old

abbrev pub step_answer : Event → Seen → Result Reply StepFault
step_answer event w = answer_or (refusal w event) (reply_to w event)

abbrev pub after_step : ℕ → Event → Seen → Seen
after_step actor event w = world_or (refusal w event) (stepped actor event w) w

-- whether an answer says that something was done: it is neither idle nor held
abbrev pub does_something : Told → Bool
does_something (Plain Idle) = false
does_something (Plain (Held hold)) = false
does_something _ = true

-- the socket that an entry opens
abbrev pub opened_socket : Event → Reply → Option ℕ
opened_socket (Open s) Opened = Some s
opened_socket _ _ = None

-- the sockets in the order in which they were opened
abbrev pub opening_order : List Entry → List ℕ
opening_order [] = []
opening_order (e ∷ older) = opening_order older ++ option_to_list (opened_socket e.event e.reply)

-- what may move on the link of a slot, and on a socket
abbrev pub slot_events : ℕ → List Event
slot_events k = Deliver k A ∷ Deliver k B ∷ Complete k A ∷ Complete k B ∷ []

abbrev pub socket_events : ℕ → List Event
socket_events s = Clc s A ∷ Clc s B ∷ []

-- all that a pump looks at, in its order: the slots upwards, then the sockets as they were opened
abbrev pub candidates : Setup → List Entry → List Event
candidates setup before = flat_map slot_events (up_to setup.links) ++ flat_map socket_events (opening_order before)

-- the first of them that would do something
abbrev pub next_event : Seen → Option Event
next_event w = find (λ event. does_something (told_by w event)) (candidates w.setup (past w))

-- a pump's answer and the world after it: the step of the next event, if there is one
abbrev pub some_answer : Result Reply StepFault → Result (Option Reply) StepFault
some_answer (Ok reply) = Ok (Some reply)
some_answer (Err fault) = Err fault

abbrev pub answer_of_next : Option Event → Seen → Result (Option Reply) StepFault
answer_of_next None w = Ok None
answer_of_next (Some event) w = some_answer (step_answer event w)

abbrev pub world_after_next : Option Event → ℕ → Seen → Seen
world_after_next None actor w = w
world_after_next (Some event) actor w = after_step actor event w

abbrev pub pump_answer : Seen → Result (Option Reply) StepFault
pump_answer w = answer_of_next (next_event w) w

abbrev pub after_pump : ℕ → Seen → Seen
after_pump actor w = world_after_next (next_event w) actor w
