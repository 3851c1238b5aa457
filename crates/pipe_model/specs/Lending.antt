-- Elements of RMBs and the connections that they are lent to.
-- A reader learns here when a lending begins and ends, which element is the lowest free one, and when it may be lent again.
use Rattle.std.specs.Prelude.{ℕ, ◌%◌, ◌==◌, ◌&&◌, ◌||◌, not, nat_lt, Bool, true, false, List, [], ◌∷◌, ◌++◌, length, filter, filter_map, flat_map, map, find, All, Option, Some, None, IsTrue}
use Rattle.std.specs.List.{list_any}
use Rattle.smc_num.specs.declared.Side.{Side}
use Rattle.smc_num.specs.declared.Side.TheVariants.{A, B}
use Rattle.smc_num.specs.declared.LinkId.{LinkId}
use Rattle.smc_num.specs.Names.{other, same_side, up_to}
use Rattle.smc_num.specs.Places.{rmb_at, same_place, Place, is_free, all_places}
use Rattle.clc_wire.specs.declared.offer.Offer.{Offer}
use Rattle.clc_wire.specs.declared.message.ClcMessage.TheVariants.{Accept, Confirm}
use Rattle.cdc_wire.specs.declared.CdcMessage.{CdcMessage}
use Rattle.pipe_model.specs.declared.event.Event.{Event}
use Rattle.pipe_model.specs.declared.event.Event.TheVariants.{Clc as ClcEvent}
use Rattle.pipe_model.specs.declared.reply.Reply.{Reply}
use Rattle.pipe_model.specs.declared.reply.Reply.TheVariants.{Declined, FellBack, Reset}
use Rattle.pipe_model.specs.declared.post.Post.{Post}
use Rattle.pipe_model.specs.declared.post.Post.TheVariants.{Cdc, Clc}
use Rattle.pipe_model.specs.declared.setup.Setup.{Setup}
use Rattle.pipe_model.specs.declared.entry.Entry.{Entry}
use Rattle.pipe_model.specs.Words.{element_size, rmbs_of, elements_of}
use Rattle.pipe_model.specs.Pipe.{Terms, Pipe, pipe, half}
use Rattle.pipe_model.specs.Ends.{is_over}
use Rattle.pipe_model.specs.Fabric.{loses_group_with, has_ended}
use Rattle.pipe_model.specs.Connections.{EndState, NoEnd, HasFallen, WasReset, end_state, group_on, part, token_of}

-- a lending of an element to the connection of a socket, with the group and the token of that connection at the side
-- RFC 7609, 4.4; the word is ours
pub record Lending : Type 0 where
  pub place : Place
  pub s : ℕ
  pub group : ℕ
  pub token : ℕ

-- the lending that an offer begins
-- RFC 7609, 3.5
abbrev pub lends_by : ℕ → LinkId → Offer → Lending
lends_by s link o = record { place = record { rmb = rmb_at o.address; index = o.index }; s = s; group = link.group; token = o.token }

-- the lending that a post begins: B lends with an Accept, A with a Confirm
-- RFC 7609, 3.5
abbrev pub lends : Side → Post → Option Lending
lends B (Clc B s (Some link) (Accept o)) = Some (lends_by s link o)
lends A (Clc A s (Some link) (Confirm o)) = Some (lends_by s link o)
lends _ _ = None

-- all lendings of a side, the newest first
-- ours: a state after a history
abbrev pub lendings : Side → List Entry → List Lending
lendings x [] = []
lendings x (e ∷ older) = filter_map (lends x) e.posts ++ lendings x older

-- how often an element was lent: the epoch of its last lending
-- ours: it tells the lendings of an element apart
abbrev pub epoch : Side → Place → List Entry → ℕ
epoch x place past = length (filter (λ l. same_place place l.place) (lendings x past))

-- the terms of all connections of a world
-- ours: what a setup fixes for a connection
abbrev pub terms_of : Setup → Terms
terms_of setup = record { size = element_size setup; depth = setup.depth; number = setup.number }

-- the private pipe of the connection of a socket in a group
-- ours: a connection without its fabric
abbrev pub pipe_of : Setup → List ℕ → ℕ → ℕ → List Entry → Pipe
pipe_of setup payload group s past = pipe (terms_of setup) (part payload group s past)

-- whether an answer to a CLC message ends the handshake of its taker without a connection
-- RFC 7609, 3.5; of resets ours
abbrev pub gives_up : Reply → Bool
gives_up (Declined lack) = true
gives_up FellBack = true
gives_up (Reset cause) = true
gives_up _ = false

-- whether an end leaves its handshake so with an event
-- RFC 7609, 3.5; of resets ours
abbrev pub leaves_handshake : Side → ℕ → Event → Reply → Bool
leaves_handshake A s (ClcEvent t B) reply = (s == t) && gives_up reply
leaves_handshake B s (ClcEvent t A) reply = (s == t) && gives_up reply
leaves_handshake x s _ reply = false

-- whether the end is over: its own last snapshot has completed and the peer's has landed
-- RFC 7609, 4.8
abbrev pub is_over_on : Setup → List ℕ → Side → Lending → List Entry → Bool
is_over_on setup payload x l past = is_over (half x (pipe_of setup payload l.group l.s past))

-- whether a lending ends with an entry: the end is over, falls back, is reset in its handshake, or loses its group
-- RFC 7609, 4.4.2; fallback and the group's end are ours
abbrev pub returns : Setup → List ℕ → Side → Entry → List Entry → Lending → Bool
returns setup payload x e past l = leaves_handshake x l.s e.event e.reply || (loses_group_with x l.group e past || is_over_on setup payload x l (e ∷ past))

-- the elements that are lent at a side, the newest lending first
-- ours: a state after a history
abbrev pub lent : Setup → List ℕ → Side → List Entry → List Lending
lent setup payload x [] = []
lent setup payload x (e ∷ older) = filter_map (lends x) e.posts ++ filter (λ l. not (returns setup payload x e older l)) (lent setup payload x older)

-- the places that are lent
-- ours: a list helper
abbrev pub lent_places : List Lending → List Place
lent_places lent_now = map (λ l. l.place) lent_now

-- the free elements of a side, the lowest first
-- ours: the order; RFC 7609, 4.2 for the elements
abbrev pub free_places : Setup → List ℕ → Side → List Entry → List Place
free_places setup payload x past = filter (is_free (lent_places (lent setup payload x past))) (all_places (rmbs_of setup x) (elements_of setup x))

-- whether no element of an RMB is lent
-- ours: a look-up
abbrev pub is_idle : ℕ → List Lending → Bool
is_idle rmb lent_now = not (list_any (λ l. l.place.rmb == rmb) lent_now)

-- the lending that a token names, where its record stands
-- RFC 7609, 3.4: the alert token names the receiver's connection
abbrev pub record_of : Setup → List ℕ → Side → ℕ → List Entry → Option Lending
record_of setup payload x token past = find (λ l. l.token == token) (lent setup payload x past)

-- whether a CDC message tells closed or aborted
-- RFC 7609, 4.8
abbrev pub tells_last : CdcMessage → Bool
tells_last m = nat_lt 0x1f (m.state % 0x80)

-- whether a post is such a message of a side
-- RFC 7609, 4.8
abbrev pub posts_last : Side → ℕ → Post → Bool
posts_last x token (Cdc from link m) = same_side x from && ((token == m.token) && tells_last m)
posts_last x token _ = false

-- whether a side posted a snapshot with closed or aborted under a token
-- RFC 7609, 4.8
abbrev pub told_last : Side → ℕ → List Entry → Bool
told_last x token [] = false
told_last x token (e ∷ older) = list_any (posts_last x token) e.posts || told_last x token older

-- whether an end has left its handshake without being established; the end that a raw socket lacks counts as gone
-- RFC 7609, 4.4.2, for closing; fallback and the end of the group are ours
abbrev pub is_out : EndState → Bool
is_out NoEnd = true
is_out HasFallen = true
is_out (WasReset cause) = true
is_out _ = false

-- whether an end has gone
-- RFC 7609, 4.4.2, for closing; fallback and the end of the group are ours
abbrev pub is_gone : Side → ℕ → List Entry → Bool
is_gone x s past = told_last x (token_of (other x) s past) past || (is_out (end_state x s past) || has_ended x (group_on s past) past)

-- whether an element of a lending may be lent again: both ends have gone, or the side's group has ended
-- RFC 7609, 4.4.2; "gone" is ours
abbrev pub is_done_with : Side → Lending → List Entry → Bool
is_done_with x l past = (is_gone A l.s past && is_gone B l.s past) || has_ended x l.group past

-- the law of a lending: each earlier lending of the same element is done with
-- RFC 7609, 4.4.2; "gone" is ours
abbrev pub IsRelent : Side → Lending → List Entry → Type 0
IsRelent x new past = All (λ l. IsTrue (is_done_with x l past)) (filter (λ l. same_place new.place l.place) (lendings x past))

-- the law of the lendings that an entry begins
-- RFC 7609, 4.4.2; "gone" is ours
abbrev pub RelendsOnlyDone : Side → Entry → List Entry → Type 0
RelendsOnlyDone x e past = All (λ l. IsRelent x l past) (filter_map (lends x) e.posts)
