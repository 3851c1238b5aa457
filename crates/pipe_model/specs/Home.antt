-- Where a remote write must land: inside one element that is lent to its connection.
-- A reader learns here how a write is told whose it is, and what "home" asks of its key, its address and its length.
use Rattle.std.specs.Prelude.{◌≡◌, ◌≤◌, ℕ, ◌+◌, ◌-◌, ◌*◌, ◌%◌, List, [], ◌∷◌, drop, filter_map, Contains, Option, Some, None, option_and_then}
use Rattle.std.specs.Option.{IsSomeAnd}
use Rattle.smc_num.specs.declared.Side.{Side}
use Rattle.smc_num.specs.declared.LinkId.{LinkId}
use Rattle.smc_num.specs.Names.{other, head}
use Rattle.smc_num.specs.Places.{Place, rmb_address, element_start}
use Rattle.smc_num.specs.Keys.{rmbs_bound}
use Rattle.cdc_wire.specs.declared.CdcMessage.{CdcMessage}
use Rattle.pipe_model.specs.declared.event.Event.{Event}
use Rattle.pipe_model.specs.declared.event.Event.TheVariants.{Deliver}
use Rattle.pipe_model.specs.declared.reply.Reply.{Reply}
use Rattle.pipe_model.specs.declared.reply.Reply.TheVariants.{Landed}
use Rattle.pipe_model.specs.declared.post.Post.{Post}
use Rattle.pipe_model.specs.declared.post.Post.TheVariants.{Write, Cdc}
use Rattle.pipe_model.specs.declared.post.PostRef.{PostRef}
use Rattle.pipe_model.specs.declared.setup.Setup.{Setup}
use Rattle.pipe_model.specs.declared.entry.Entry.{Entry}
use Rattle.pipe_model.specs.Words.{element_size}
use Rattle.pipe_model.specs.History.{entry_at, post_at}
use Rattle.pipe_model.specs.Lending.{Lending, lent}
use Rattle.pipe_model.specs.Keys.{keys_of}

-- the CDC message in a post
-- ours: a case for each post
abbrev pub cdc_in : Post → Option CdcMessage
cdc_in (Cdc from link m) = Some m
cdc_in _ = None

-- the CDC message that follows a post in its entry: the write belongs to the connection that its token names
-- RFC 7609, 4.7: a CDC message follows the writes that it tells
abbrev pub following_cdc : PostRef → List Entry → Option CdcMessage
following_cdc at past = option_and_then (λ e. head (filter_map cdc_in (drop at.post e.posts))) (entry_at at.entry past)

-- a write under a key on a link is home: the key is bound there to one RMB, the range lies inside one element of it,
-- and that element is lent in the lending whose token the following CDC message has
-- ours: what RFC 7609, 4.2 to 4.4, are there to keep
pub record IsHome (setup : Setup) (payload : List ℕ) (y : Side) (link : LinkId) (key address len token : ℕ) (past : List Entry) : Type 0 where
  pub lending : Lending
  pub lent_now : Contains (lent setup payload y past) lending
  pub named : lending.token ≡ token
  pub bound_once : rmbs_bound key link (keys_of y past).keys ≡ lending.place.rmb ∷ []
  pub from_start : element_start (element_size setup) lending.place ≤ address
  pub to_end : address + len ≤ element_start (element_size setup) lending.place + element_size setup

-- what must hold of a post that lands: behind a write stands a CDC message, and the write is home for the connection that this names
-- ours: what RFC 7609, 4.2 to 4.4, are there to keep
abbrev pub PostIsHome : Setup → List ℕ → PostRef → List Entry → Post → Type 0
PostIsHome setup payload at past (Write from link key address len) = IsSomeAnd (following_cdc at past) (λ m. IsHome setup payload (other from) link key address len m.token past)
PostIsHome setup payload at past _ = Unit {0}

-- what lands was posted, and each write that lands is home
-- ours: what RFC 7609, 4.2 to 4.4, are there to keep
abbrev pub LandsHome : Setup → List ℕ → Event → Reply → List Entry → Type 0
LandsHome setup payload (Deliver slot dir) (Landed at) past = IsSomeAnd (post_at at past) (PostIsHome setup payload at past)
LandsHome setup payload _ _ past = Unit {0}
