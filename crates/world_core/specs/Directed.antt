-- Writes under way on the one link.
-- A reader learns here into which element a write goes, and which CDC message stands behind it in its entry.
use Rattle.std.specs.Prelude.{◌≡◌, ◌≤◌, ℕ, ◌+◌, true, List, [], ◌∷◌, length, Option, Some}
use Rattle.smc_num.specs.declared.Side.{Side}
use Rattle.smc_num.specs.declared.LinkId.{LinkId}
use Rattle.smc_num.specs.Names.{other}
use Rattle.smc_num.specs.Places.{element_start}
use Rattle.cdc_wire.specs.declared.CdcMessage.{CdcMessage}
use Rattle.pipe_model.specs.declared.post.Post.{Post}
use Rattle.pipe_model.specs.declared.post.Post.TheVariants.{Write}
use Rattle.pipe_model.specs.declared.post.Placed.{Placed}
use Rattle.pipe_model.specs.declared.setup.Setup.{Setup}
use Rattle.pipe_model.specs.declared.entry.Entry.{Entry}
use Rattle.pipe_model.specs.Words.{element_size}
use Rattle.pipe_model.specs.History.{Offered, offered}
use Rattle.pipe_model.specs.Connections.{is_up}
use Rattle.pipe_model.specs.Posts.{offered_place}
use Rattle.pipe_model.specs.Home.{following_cdc}
use Rattle.world_core.specs.OneLink.{the_link, the_key}

-- a write of a side, with the CDC message found behind it: on a socket whose end is up at that side it goes on the one link, under the
-- peer's one key, into the element that the peer offered there, and the message names that offer
pub record IsDirected (setup : Setup) (from : Side) (link : LinkId) (key address len : ℕ) (found : Option CdcMessage) (past : List Entry) : Type 0 where
  pub s : ℕ
  pub offer : Offered
  pub message : CdcMessage
  pub offered_is : offered (other from) s past ≡ Some offer
  pub up : is_up from s past ≡ true
  pub on : link ≡ the_link
  pub key_is : key ≡ (the_key (other from)).key
  pub from_start : element_start (element_size setup) (offered_place offer.offer) ≤ address
  pub to_end : address + len ≤ element_start (element_size setup) (offered_place offer.offer) + element_size setup
  pub found_is : found ≡ Some message
  pub token : message.token ≡ offer.offer.token

-- a post is so directed, where it is a write
abbrev pub GoesHome : Setup → Option CdcMessage → List Entry → Post → Type 0
GoesHome setup found past (Write from link key address len) = IsDirected setup from link key address len found past
GoesHome setup found past _ = Unit {0}

-- a post that waits to land stands in the history, and is so directed by the message behind it there
pub record IsUnderWay (setup : Setup) (past : List Entry) (c : Placed) : Type 0 where
  pub within : c.at.entry ≤ length past
  pub home : GoesHome setup (following_cdc c.at past) past c.post

-- that something holds of each post and what stands behind it
abbrev pub EachThen : (Post → List Post → Type 0) → List Post → Type 0
EachThen P [] = Unit {0}
EachThen P (post ∷ posts) = P post posts × EachThen P posts
