-- What an end of a side posts.
-- A reader learns here under which key, to which element of the peer and on which link its batch goes.
use Rattle.std.specs.Prelude.{◌≡◌, ◌==◌, ℕ, ◌+◌, true, List, [], ◌∷◌, ◌++◌, Option, Some, None, if◌then◌else◌}
use Rattle.smc_num.specs.declared.Side.{Side}
use Rattle.smc_num.specs.declared.LinkId.{LinkId}
use Rattle.smc_num.specs.Places.{element_start}
use Rattle.cdc_wire.specs.declared.CdcMessage.{CdcMessage}
use Rattle.clc_wire.specs.declared.offer.Offer.{Offer}
use Rattle.cdc_ring.specs.declared.Piece.{Piece}
use Rattle.pipe_model.specs.declared.post.Post.{Post}
use Rattle.pipe_model.specs.declared.post.Post.TheVariants.{Write, Cdc}
use Rattle.pipe_model.specs.Ends.{Half, is_due, batch}
use Rattle.pipe_model.specs.Posts.{cdc_posts, offered_place}
use Rattle.conn_end.specs.declared.answers.Batch.{Batch}
use Rattle.conn_end.specs.Kept.{Kept, SameTerms}
use Rattle.conn_end.specs.Batches.{may_post}
use Rattle.side_core.specs.declared.route.Way.{Way}
use Rattle.side_core.specs.Records.{Connection, Records}

-- the batch of an end, to the element that the peer offered
abbrev pub batch_posts : ℕ → Side → ℕ → Option Offer → Half → List Post
batch_posts size x key None h = []
batch_posts size x key (Some o) h = cdc_posts size x key o (batch h)

-- what an end posts that is due
abbrev pub due_posts : ℕ → ℕ → Side → ℕ → Option Offer → Half → List Post
due_posts size depth x key peer h = if is_due depth h then batch_posts size x key peer h else []

-- what the end of a socket posts after something was done to it
abbrev pub posts_at : ℕ → (Half → Half) → Way → Records Half → Option (Connection Half) → List Post
posts_at s act way r None = []
posts_at s act way r (Some c) = due_posts r.terms.size r.terms.depth way.side way.key c.route.peer (act c.end)

-- that a way tells whether the end of a socket may post after something was done to it
abbrev pub IsWay : (Half → Half) → Way → Option (Connection Half) → Type 0
IsWay act way None = Unit {0}
IsWay act way (Some c) = way.live ≡ may_post (act c.end)

-- that a way tells whether a plain end may post, which is on this link once it is established
pub record IsOnWay (on : LinkId) (way : Way) (h : Half) : Type 0 where
  pub live : way.live ≡ may_post h
  pub link : h.up ≡ true → h.link ≡ on

-- the write of a piece, at an element that begins at an address
abbrev pub piece_posts : Side → LinkId → ℕ → ℕ → Piece → List Post
piece_posts x link key start piece = if piece.len == 0 then [] else Write x link key (start + piece.place) piece.len ∷ []

-- the message behind the writes
abbrev pub message_posts : Side → LinkId → Option CdcMessage → List Post
message_posts x link None = []
message_posts x link (Some m) = Cdc x link m ∷ []

-- the posts of a batch without a validation message
abbrev pub posts_of_batch : ℕ → Way → LinkId → Offer → Batch → List Post
posts_of_batch size way link o b = let start : ℕ = element_start size (offered_place o) in
    (piece_posts way.side link way.key start b.pieces.0 ++ piece_posts way.side link way.key start b.pieces.1) ++ message_posts way.side link b.message

-- that a connection keeps its route, what its end is made with and whose token it carries, and that it owes no validation
pub record SameCourse (old new : Connection Kept) : Type 0 where
  pub route : new.route ≡ old.route
  pub terms : SameTerms old.end new.end
  pub owes : new.end.owes ≡ old.end.owes
