-- One direction of a link: what would land, complete or be swallowed, and what is left then.
-- A reader learns here how a cut and the reports of the two sides stop the posts of a link.
use Rattle.std.specs.Prelude.{◌≡◌, ◌⊎◌, ℕ, ◌-◌, ◌+◌, ◌&&◌, ◌||◌, not, Bool, true, false, if◌then◌else◌, List, [], ◌∷◌, ◌++◌, length, drop, map, Option, Some, None}
use Rattle.smc_num.specs.declared.Side.{Side}
use Rattle.smc_num.specs.declared.Side.TheVariants.{A, B}
use Rattle.smc_num.specs.Names.{head}
use Rattle.cdc_wire.specs.declared.CdcMessage.{CdcMessage}
use Rattle.pipe_model.specs.declared.post.Post.{Post}
use Rattle.pipe_model.specs.declared.post.Post.TheVariants.{Write, Cdc, Llc, Clc}
use Rattle.pipe_model.specs.declared.post.Placed.{Placed}
use Rattle.pipe_model.specs.Words.{is_nil}
use Rattle.pipe_model.specs.Wires.{completes_later}
use Rattle.rc_link.specs.declared.InFlight.{InFlight}

-- one direction of a link: how many posts it has places for; the posts that have not landed, and those that have landed and not
-- completed, the oldest first; whether the link was cut, and whether side A and side B have reported it
pub record Queues : Type 0 where
  pub places : ℕ
  pub waiting : List InFlight
  pub landed : List InFlight
  pub cut : Bool
  pub by_a : Bool
  pub by_b : Bool

-- a wire that carries nothing, on a link that no side has reported
abbrev pub empty : ℕ → Bool → Queues
empty places cut = record { places = places; waiting = []; landed = []; cut = cut; by_a = false; by_b = false }

-- a carried post without the plain snapshot beside it
abbrev pub placed : InFlight → Placed
placed c = record { at = c.at; post = c.post }

-- the posts that have not landed
abbrev pub unlanded : Queues → List Placed
unlanded w = map placed w.waiting

-- the posts that have landed and not completed
abbrev pub uncompleted : Queues → List Placed
uncompleted w = map placed w.landed

-- how many places are free
abbrev pub room_of : Queues → ℕ
room_of w = w.places - (length w.waiting + length w.landed)

-- whether a side has reported the link
abbrev pub is_reported_by : Side → Queues → Bool
is_reported_by A w = w.by_a
is_reported_by B w = w.by_b

-- whether some side has
abbrev pub is_reported : Queues → Bool
is_reported w = w.by_a || w.by_b

-- whether the link is dead: it was cut, or a side has reported it
abbrev pub is_dead : Queues → Bool
is_dead w = w.cut || is_reported w

-- the post that would land: none on a dead link
abbrev pub landing : Queues → Option InFlight
landing w = if is_dead w then None else head w.waiting

-- the post that would complete: none where a side has reported the link
abbrev pub completing : Queues → Option InFlight
completing w = if is_reported w then None else head w.landed

-- whether the next post may be swallowed: the link was cut, no side has reported it, and nothing waits to complete
abbrev pub may_swallow : Queues → Bool
may_swallow w = (w.cut && not (is_reported w)) && is_nil w.landed

-- the post that would be swallowed
abbrev pub swallowing : Queues → Option InFlight
swallowing w = if may_swallow w then head w.waiting else None

-- the next CDC message among posts: the writes before it belong to the connection that its token names
abbrev pub next_cdc : List Post → Option CdcMessage
next_cdc [] = None
next_cdc (Write from link key address len ∷ posts) = next_cdc posts
next_cdc (Cdc from link m ∷ posts) = Some m
next_cdc (Llc from link m ∷ posts) = next_cdc posts
next_cdc (Clc from s link m ∷ posts) = next_cdc posts

-- the wire after one more post
abbrev pub with_post : InFlight → Queues → Queues
with_post c w = record w { waiting = w.waiting ++ c ∷ [] }

-- the landed posts, with one that has just landed; an LLC message is done with when it lands
abbrev pub landed_with : InFlight → List InFlight → List InFlight
landed_with c landed = if completes_later c.post then landed ++ c ∷ [] else landed

-- the wire after this post has landed
abbrev pub with_landed : Option InFlight → Queues → Queues
with_landed None w = w
with_landed (Some c) w = record w { waiting = drop 1 w.waiting; landed = landed_with c w.landed }

-- the wire after this post has completed
abbrev pub with_completed : Option InFlight → Queues → Queues
with_completed None w = w
with_completed (Some c) w = record w { landed = drop 1 w.landed }

-- the wire after this post was swallowed
abbrev pub with_swallowed : Option InFlight → Queues → Queues
with_swallowed None w = w
with_swallowed (Some c) w = record w { waiting = drop 1 w.waiting }

-- the wire after a side has reported its link
abbrev pub with_report : Side → Queues → Queues
with_report A w = record w { by_a = true }
with_report B w = record w { by_b = true }

-- a wire that may be used for the next link of its slot: both sides have reported the link, or it was never used
abbrev pub IsSpent : Queues → Type 0
IsSpent w = ((w.by_a ≡ true) × (w.by_b ≡ true)) ⊎ (w ≡ empty w.places false)
