-- A post that has just left the wire of a side, while both hosts still stand for the history before that.
-- A reader learns here what is known of the hosts between the landing or completion of a post and what they do with it.
use Rattle.std.specs.Prelude.{◌≡◌, Bool, true, false, Some}
use Rattle.smc_num.specs.declared.Side.{Side}
use Rattle.pipe_model.specs.declared.event.Event.{Event}
use Rattle.pipe_model.specs.declared.event.Event.TheVariants.{Deliver, Complete}
use Rattle.pipe_model.specs.declared.post.Post.{Post}
use Rattle.pipe_model.specs.declared.post.Post.TheVariants.{Write, Cdc, Llc}
use Rattle.rc_link.specs.declared.InFlight.{InFlight}
use Rattle.rc_link.specs.Wire.{landing, completing, with_landed, with_completed}
use Rattle.world_core.specs.declared.host.Host.{Host}
use Rattle.world_core.specs.declared.moment.Moment.{Moment}
use Rattle.world_core.specs.Hosts.{AreHosts, wire_at}

-- the events with which a post leaves a wire, on the one slot
abbrev pub IsLeaving : Event → Type 0
IsLeaving (Deliver slot dir) = slot ≡ 1
IsLeaving (Complete slot dir) = slot ≡ 1
IsLeaving _ = ⊥

-- whether a post is a write, a CDC message or an LLC message
abbrev pub is_write_post : Post → Bool
is_write_post (Write from link key address len) = true
is_write_post _ = false

abbrev pub is_cdc_post : Post → Bool
is_cdc_post (Cdc from link message) = true
is_cdc_post _ = false

abbrev pub is_llc_post : Post → Bool
is_llc_post (Llc from link message) = true
is_llc_post _ = false

-- that a post of a side has just landed: the peer's host `k` stands for the history, and its own host `h` did, as it was when the
-- wire still had the post
pub record HasLanded (at : Moment) (x : Side) (c : InFlight) (h k : Host) : Type 0 where
  pub was : Host
  pub first : landing (wire_at 1 was) ≡ Some c
  pub wire : wire_at 1 h ≡ with_landed (Some c) (wire_at 1 was)
  pub core : h.core ≡ was.core
  pub flows : h.flows.items ≡ was.flows.items
  pub hosts : AreHosts at x was k

-- that one has just completed
pub record HasCompleted (at : Moment) (x : Side) (c : InFlight) (h k : Host) : Type 0 where
  pub was : Host
  pub first : completing (wire_at 1 was) ≡ Some c
  pub wire : wire_at 1 h ≡ with_completed (Some c) (wire_at 1 was)
  pub core : h.core ≡ was.core
  pub flows : h.flows.items ≡ was.flows.items
  pub hosts : AreHosts at x was k
