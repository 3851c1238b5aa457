-- Reading a history, whose newest entry comes first.
-- A reader learns here how entries and posts are numbered, and what an Accept and a Confirm offer.
use Rattle.std.specs.Prelude.{ℕ, ◌+◌, ◌-◌, ◌==◌, ◌&&◌, Bool, true, false, List, [], ◌∷◌, length, filter_map, slice_get, Option, Some, None, option_and_then}
use Rattle.std.specs.Option.{option_or}
use Rattle.smc_num.specs.declared.Side.{Side}
use Rattle.smc_num.specs.declared.Side.TheVariants.{A, B}
use Rattle.smc_num.specs.declared.LinkId.{LinkId}
use Rattle.smc_num.specs.Names.{same_side, head}
use Rattle.clc_wire.specs.declared.offer.Offer.{Offer}
use Rattle.clc_wire.specs.declared.message.ClcMessage.TheVariants.{Accept, Confirm}
use Rattle.pipe_model.specs.declared.post.Post.{Post}
use Rattle.pipe_model.specs.declared.post.Post.TheVariants.{Write, Cdc, Llc, Clc}
use Rattle.pipe_model.specs.declared.post.PostRef.{PostRef}
use Rattle.pipe_model.specs.declared.post.Placed.{Placed}
use Rattle.pipe_model.specs.declared.entry.Entry.{Entry}

-- the number of the next entry
-- ours: a history is a list
abbrev pub next_number : List Entry → ℕ
next_number past = length past + 1

-- the entry with a number
-- ours: a history is a list
abbrev pub entry_at : ℕ → List Entry → Option Entry
entry_at n past = slice_get past (length past - n)

-- the post that a place in the history names
-- ours: a history is a list
abbrev pub post_at : PostRef → List Entry → Option Post
post_at at past = option_and_then (λ e. slice_get e.posts (at.post - 1)) (entry_at at.entry past)

-- the posts of an entry with their places, the first of them having this number in the entry
-- ours: a history is a list
abbrev pub numbered : ℕ → ℕ → List Post → List Placed
numbered entry first [] = []
numbered entry first (post ∷ posts) = record { at = record { entry = entry; post = first }; post = post } ∷ numbered entry (first + 1) posts

-- an offer of an element, and the link that it names
-- RFC 7609, 3.5
pub record Offered : Type 0 where
  pub link : LinkId
  pub offer : Offer

-- the offer, where it is for that socket
-- RFC 7609, 3.5
abbrev pub offered_if : Bool → LinkId → Offer → Option Offered
offered_if true link offer = Some (record { link = link; offer = offer })
offered_if false link offer = None

-- the offer that a post makes for a side on a socket: an Accept of B, or a Confirm of A
-- RFC 7609, 3.5
abbrev pub offer_in : Side → ℕ → Post → Option Offered
offer_in B s (Clc B t (Some link) (Accept o)) = offered_if (s == t) link o
offer_in A s (Clc A t (Some link) (Confirm o)) = offered_if (s == t) link o
offer_in _ _ _ = None

-- the offer that a side has made on a socket
-- RFC 7609, 3.5
abbrev pub offered : Side → ℕ → List Entry → Option Offered
offered x s [] = None
offered x s (e ∷ older) = option_or (head (filter_map (offer_in x s) e.posts)) (offered x s older)

-- the link on which a post goes, where it goes on a wire
-- ours: a case for each post
abbrev pub link_of_post : Post → Option LinkId
link_of_post (Write from link key address len) = Some link
link_of_post (Cdc from link message) = Some link
link_of_post (Llc from link message) = Some link
link_of_post (Clc from s link message) = None

-- the side that made a post
-- ours: a case for each post
abbrev pub sender : Post → Side
sender (Write from link key address len) = from
sender (Cdc from link message) = from
sender (Llc from link message) = from
sender (Clc from s link message) = from

-- whether the post is a CDC message of a side under a token
-- RFC 7609, 3.4: the alert token names the receiver's connection
abbrev pub is_cdc : Side → ℕ → Post → Bool
is_cdc x token (Cdc from link message) = same_side x from && (token == message.token)
is_cdc x token _ = false
