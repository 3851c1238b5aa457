-- The two hosts stand for a history whichever of them is named first.
use Rattle.std.specs.Prelude.{◌≡◌, List, ℕ}
use Rattle.std.proofs.Common.{subst, sym}
use Rattle.smc_num.specs.declared.Side.{Side}
use Rattle.smc_num.specs.declared.Side.TheVariants.{A, B}
use Rattle.pipe_model.specs.declared.setup.Setup.{Setup}
use Rattle.pipe_model.specs.declared.entry.Entry.{Entry}
use Rattle.pipe_model.specs.declared.event.Event.{Event}
use Rattle.pipe_model.specs.declared.reply.Reply.{Reply}
use Rattle.pipe_model.specs.declared.post.Post.{Post}
use Rattle.world_core.specs.declared.host.Host.{Host}
use Rattle.world_core.specs.declared.moment.Moment.{Moment}
use Rattle.world_core.specs.Hosts.{AreHostsAfter, IsPlayedBy, KnowSocket}

pub turned : (setup : Setup) (payload : List ℕ) (past : List Entry) (heard : ℕ) (a b : Host) → AreHostsAfter setup payload past heard A a b → AreHostsAfter setup payload past heard B b a
turned setup payload past heard a b h = record { set = h.set; few = h.few; played = h.played; own = h.theirs; theirs = h.own }

abbrev pub knows-turned : {s : ℕ} {a b : Host} → KnowSocket s A a b → KnowSocket s B b a
knows-turned k = record { setup = k.setup; payload = k.payload; past = k.past; heard = k.heard; hosts = turned k.setup k.payload k.past k.heard _ _ k.hosts; known = k.known }

pub played_swapped : (at : Moment) (event : Event) (reply : Reply) (posts : List Post) (a b : Host) → IsPlayedBy at event reply posts B b a → IsPlayedBy at event reply posts A a b
played_swapped at event reply posts a b p = record { reply_is = p.reply_is; posts_are = p.posts_are; after = λ actor. let h = p.after actor in record { set = h.set; few = h.few; played = h.played; own = h.theirs; theirs = h.own } }

-- an event at the host of B, which is the one that it says
pub at_b : (at : Moment) (event same : Event) (reply : Reply) (posts : List Post) (x : Side) (a b : Host) → event ≡ same → x ≡ B
    → IsPlayedBy at same reply posts x b a → IsPlayedBy at event reply posts A a b
at_b at event same reply posts x a b e f p =
    played_swapped at event reply posts a b (subst (λ (ev : Event). IsPlayedBy at ev reply posts B b a) (sym e) (subst (λ (y : Side). IsPlayedBy at same reply posts y b a) f p))
