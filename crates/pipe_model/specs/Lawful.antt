-- A lawful history: each call is answered by its private pipe, each other event by its row, and nothing else is posted;
-- each write lands home; no element or key is lent again too early; what an open is declined for lacks; and what resets a connection is shown.
-- A reader learns here what the headline says, in one predicate over setup, payload, history and the bytes handed out.
use Rattle.std.specs.Prelude.{◌≡◌, ℕ, Bool, true, false, if◌then◌else◌, List, [], ◌∷◌, ◌++◌, length, take, drop, map, filter, reverse, Option, Some, None, option_map, unwrap_or, IsTrue}
use Rattle.smc_num.specs.declared.Side.{Side}
use Rattle.smc_num.specs.declared.Side.TheVariants.{A, B}
use Rattle.smc_num.specs.Names.{other, head}
use Rattle.pipe_model.specs.declared.reply.SentKind.TheVariants.{AddLink as AddLinkSent, DeleteRkey as DeleteSent, TestLink as TestSent}
use Rattle.pipe_model.specs.declared.event.Event.{Event}
use Rattle.pipe_model.specs.declared.event.Event.TheVariants.{Open, Read, Clc, Deliver, Report, Grow, Test, Trim}
use Rattle.pipe_model.specs.declared.reply.Reply.{Reply}
use Rattle.pipe_model.specs.declared.reply.Reply.TheVariants.{Opened, Bytes, Done, Idle, Sent}
use Rattle.pipe_model.specs.declared.post.Post.{Post}
use Rattle.pipe_model.specs.declared.setup.Setup.{Setup}
use Rattle.pipe_model.specs.declared.entry.Entry.{Entry}
use Rattle.pipe_model.specs.Pipe.{Terms, Item, Calls, pipe, told as pipe_told, is_near_part}
use Rattle.pipe_model.specs.Calls.{Told, Plain, Hands}
use Rattle.pipe_model.specs.Fabric.{Act, act_of}
use Rattle.pipe_model.specs.Wires.{landing}
use Rattle.pipe_model.specs.Connections.{is_up, group_on, items, part}
use Rattle.pipe_model.specs.Lending.{terms_of, RelendsOnlyDone}
use Rattle.pipe_model.specs.Keys.{AreBound}
use Rattle.pipe_model.specs.Fallback.{Front, Whole, front}
use Rattle.pipe_model.specs.Posts.{clc_posts, step_posts, report_posts, grow_post, test_post, trim_post, proposal_post, connection_posts}
use Rattle.pipe_model.specs.Replies.{told, clc_step, open_slots}
use Rattle.pipe_model.specs.Home.{LandsHome}
use Rattle.pipe_model.specs.Causes.{DeclinesForLack, CausesAreShown}

-- the posts of the handshake that a Clc event makes, where its message stands
-- ours: a case for each event
abbrev pub front_posts : Setup → List ℕ → Side → ℕ → List Entry → Front → List Post
front_posts setup payload x s past (Whole m len) = clc_posts setup payload x s m past (clc_step setup payload x s m past)
front_posts setup payload x s past _ = []

-- the posts of the flows that a landing makes
-- ours: a case for each event
abbrev pub act_posts : Setup → Side → List Entry → Option Act → List Post
act_posts setup x past None = []
act_posts setup x past (Some act) = step_posts setup x act.link act.message past act.step

-- the CLC and LLC posts of an event that is told so
-- ours: a case for each event
abbrev pub asked : Setup → List ℕ → List Entry → Event → Reply → List Post
asked setup payload past (Open s) Opened = proposal_post setup s ∷ []
asked setup payload past (Clc s dir) Idle = []
asked setup payload past (Clc s dir) reply = front_posts setup payload (other dir) s past (front payload dir s past)
asked setup payload past (Deliver slot dir) reply = act_posts setup (other dir) past (act_of (other dir) (option_map (λ c. c.post) (landing slot dir past)) past)
asked setup payload past (Report x slot) Done = report_posts setup x slot true past
asked setup payload past Grow (Sent AddLinkSent) = grow_post (unwrap_or (head (open_slots setup past)) 0) past ∷ []
asked setup payload past (Test x slot) (Sent TestSent) = test_post x slot past ∷ []
asked setup payload past (Trim x) (Sent DeleteSent) = trim_post setup payload x past ∷ []
asked setup payload past _ _ = []

-- the reply, where so many bytes were handed out before
-- ours: a read is told where its bytes were put
abbrev pub reply_of : ℕ → Told → Reply
reply_of n (Plain reply) = reply
reply_of n (Hands bytes) = Bytes n (length bytes)

-- the entry with the CLC and LLC posts alone
-- ours: their order
abbrev pub draft : Setup → List ℕ → List Entry → ℕ → Event → Entry
draft setup payload past n event = let reply : Reply = reply_of n (told setup payload past event) in
    record { actor = 0; event = event; reply = reply; posts = asked setup payload past event reply }

-- the posts of an event, where so many bytes were handed out before: those of handshake and flows, then those of the pipes
-- ours: their order
abbrev pub posted : Setup → List ℕ → List Entry → ℕ → Event → List Post
posted setup payload past n event = let e : Entry = draft setup payload past n event in e.posts ++ connection_posts setup payload e past

-- whether the connection of a socket is near: where it is not, the bytes of its reads are not claimed
-- ours: where 16-bit numbers may not tell a gap, no bytes are claimed
abbrev pub is_near_on : Setup → List ℕ → ℕ → List Entry → Bool
is_near_on setup payload s past = is_near_part (terms_of setup) (part payload (group_on s past) s past)

-- whether the bytes of an event are claimed
-- ours: where 16-bit numbers may not tell a gap, no bytes are claimed
abbrev pub claims_bytes : Setup → List ℕ → List Entry → Event → Bool
claims_bytes setup payload past (Read end len) = if is_up end.side end.s past then is_near_on setup payload end.s past else true
claims_bytes setup payload past _ = true

-- bytes in the place of others: the same where they are claimed, and of the same length anyway
-- ours: where 16-bit numbers may not tell a gap, no bytes are claimed
pub record Stand (claimed : Bool) (bytes given : List ℕ) : Type 0 where
  pub as_long : length given ≡ length bytes
  pub same : IsTrue claimed → given ≡ bytes

-- the bytes that an answer hands out
-- ours: the bytes that reads hand out
abbrev pub Given : Bool → Told → List ℕ → Type 0
Given claimed (Plain reply) given = given ≡ []
Given claimed (Hands bytes) given = Stand claimed bytes given

-- one step after a history, with the bytes handed out before and after it
-- ours: an entry answers and posts what the definitions say, and no more
pub record IsStep (setup : Setup) (payload : List ℕ) (past : List Entry) (before : List ℕ) (e : Entry) (heard : List ℕ) : Type 0 where
  pub reply : e.reply ≡ reply_of (length before) (told setup payload past e.event)
  pub posts : e.posts ≡ posted setup payload past (length before) e.event
  pub given : List ℕ
  pub heard_is : heard ≡ before ++ given
  pub given_is : Given (claims_bytes setup payload past e.event) (told setup payload past e.event) given
  pub home : LandsHome setup payload e.event e.reply past
  pub lent_a : RelendsOnlyDone A e past
  pub lent_b : RelendsOnlyDone B e past
  pub bound_a : AreBound A e past
  pub bound_b : AreBound B e past
  pub lacking : DeclinesForLack setup payload e.event e.reply past
  pub shown : CausesAreShown setup payload (e ∷ past)

-- lawful, the newest entry first
-- ours: the word of the headline
abbrev pub IsLawfulPast : Setup → List ℕ → List Entry → List ℕ → Type 0
IsLawfulPast setup payload [] heard = heard ≡ []
IsLawfulPast setup payload (e ∷ older) heard = (before : List ℕ) × IsStep setup payload older before e heard × IsLawfulPast setup payload older before

-- lawful, the oldest entry first, as a world hands it out
-- ours: the word of the headline
abbrev pub IsLawful : Setup → List ℕ → List Entry → List ℕ → Type 0
IsLawful setup payload history heard = IsLawfulPast setup payload (reverse history) heard

-- an entry is a lawful step after these entries, of which the oldest comes first, in a history that handed out so many bytes in all: the
-- entries before it have handed out the first of them, and it goes on from there
-- ours: the word of the headline
pub record IsLawfulAfter (setup : Setup) (payload : List ℕ) (earlier : List Entry) (e : Entry) (heard : List ℕ) : Type 0 where
  pub before : List ℕ
  pub lawful : IsLawful setup payload earlier before
  pub after : List ℕ
  pub step : IsStep setup payload (reverse earlier) before e after
  pub later : List ℕ
  pub heard_is : heard ≡ after ++ later

-- what an item is told by the pipe of those before it, where it is a call
-- ours: the words of the two-world law
abbrev pub item_told : Terms → Item → List Item → List Told
item_told t (Calls x call) older = pipe_told t x call (pipe t older) ∷ []
item_told t _ older = []

-- what all calls of a part are told, the newest first
-- ours: the words of the two-world law
abbrev pub answers : Terms → List Item → List Told
answers t [] = []
answers t (item ∷ older) = item_told t item older ++ answers t older

-- what is claimed of an answer: of bytes that are not claimed their number alone, as if they were the first that were handed out
-- ours: where 16-bit numbers may not tell a gap, no bytes are claimed
abbrev pub as_claimed : Bool → Told → Told
as_claimed near (Plain reply) = Plain reply
as_claimed near (Hands bytes) = if near then Hands bytes else Plain (Bytes 0 (length bytes))

-- what is claimed of what all calls of a part are told: bytes only as long as the part is near
-- ours: the words of the two-world law
abbrev pub claims : Terms → List Item → List Told
claims t [] = []
claims t (item ∷ older) = map (as_claimed (is_near_part t older)) (item_told t item older) ++ claims t older

-- what the calls of a connection were told in a history, by the pipe of its part
-- ours: the words of the two-world law
abbrev pub answers_on : Setup → List ℕ → ℕ → List Entry → List Told
answers_on setup payload s past = answers (terms_of setup) (part payload (group_on s past) s past)

-- whether an item is a call
-- ours: the words of the two-world law
abbrev pub is_call_of : Item → Bool
is_call_of (Calls x call) = true
is_call_of _ = false

-- a reply, with the bytes of a read in place of where they were put
-- ours: the words of the two-world law
abbrev pub read_as : List ℕ → Reply → Told
read_as heard (Bytes from len) = Hands (take len (drop from heard))
read_as heard reply = Plain reply

-- what is claimed of what a call was told with an entry: bytes only where the part before it is near
-- ours: the words of the two-world law
abbrev pub read_near : Setup → List ℕ → ℕ → ℕ → List ℕ → Entry → List Entry → Told
read_near setup payload group s heard e older = as_claimed (is_near_part (terms_of setup) (part payload group s older)) (read_as heard e.reply)

-- what is claimed of what the calls of a connection were told in a history, the newest first
-- ours: the words of the two-world law
abbrev pub was_told : Setup → List ℕ → ℕ → ℕ → List ℕ → List Entry → List Told
was_told setup payload group s heard [] = []
was_told setup payload group s heard (e ∷ older) = map (λ i. read_near setup payload group s heard e older) (filter is_call_of (items payload group s e older)) ++ was_told setup payload group s heard older

-- the law of two worlds: where the parts and the terms of a connection are equal, so is what its calls are told
-- ours: a connection depends on its own news alone
abbrev pub TwoWorlds : Setup → Setup → List ℕ → List ℕ → ℕ → ℕ → List Entry → List Entry → Type 0
TwoWorlds t u p q s r past past2 =
    terms_of t ≡ terms_of u → part p (group_on s past) s past ≡ part q (group_on r past2) r past2 → answers_on t p s past ≡ answers_on u q r past2
