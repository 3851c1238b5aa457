-- A wire has a post to land or to complete just where the event of that does something.
use Rattle.std.proofs.Common.{◌≡◌, ◌∙◌, ℕ, Bool, true, false, if◌then◌else◌, List, refl}
use Rattle.std.specs.Prelude.{Option, Some, None, is_some}
use Rattle.smc_num.specs.declared.Side.{Side}
use Rattle.smc_num.specs.Names.{other}
use Rattle.pipe_model.specs.declared.setup.Setup.{Setup}
use Rattle.pipe_model.specs.declared.event.Event.TheVariants.{Deliver, Complete}
use Rattle.pipe_model.specs.declared.reply.Reply.TheVariants.{Landed, Dropped}
use Rattle.pipe_model.specs.declared.post.Post.{Post}
use Rattle.pipe_model.specs.declared.post.Post.TheVariants.{Write, Cdc, Llc, Clc}
use Rattle.pipe_model.specs.declared.post.Placed.{Placed}
use Rattle.pipe_model.specs.declared.entry.Entry.{Entry}
use Rattle.pipe_model.specs.Wires.{landing, completing, completed_told}
use Rattle.pipe_model.specs.Lending.{record_of}
use Rattle.pipe_model.specs.Calls.{Plain}
use Rattle.pipe_model.specs.Replies.{told, deliver_told, lands_told}
use Rattle.world_core.specs.Steps.{does_something}
use Rattle.world_core.specs.declared.host.Host.{Host}
use Rattle.world_core.specs.Hosts.{AreHostsAfter, wire_at}
use Rattle.rc_link.specs.Wire.{landing as would_land, completing as would_complete}
use Rattle.world_core.proofs.WireMoves.{lands-alike, completes-alike}

module _ (setup : Setup) (payload : List ℕ) (y : Side) (past : List Entry) where
  -- whatever lands is told as landed or as dropped
  landing-told : (c : Placed) (post : Post) → true ≡ does_something (Plain (lands_told setup payload y past c post))
  landing-told c (Write from link key address len) = refl
  landing-told c (Llc from link m) = refl
  landing-told c (Clc from s link m) = refl
  landing-told c (Cdc from link m) = by (is_some (record_of setup payload y m.token past))
    where
      by : (b : Bool) → true ≡ does_something (Plain (if b then Landed c.at else Dropped m.token))
      by true = refl
      by false = refl

  lands-told : (o : Option Placed) → is_some o ≡ does_something (Plain (deliver_told setup payload y past o))
  lands-told None = refl
  lands-told (Some c) = landing-told c c.post

completes-told : (o : Option Placed) → is_some o ≡ does_something (Plain (completed_told o))
completes-told None = refl
completes-told (Some c) = refl

module _ (setup : Setup) (payload : List ℕ) (past : List Entry) (heard : ℕ) (x : Side) (h k : Host) (hosts : AreHostsAfter setup payload past heard x h k) where
  pub would-land : is_some (would_land (wire_at 1 h)) ≡ does_something (told setup payload past (Deliver 1 x))
  would-land =
      let own = hosts.own in
      let set = hosts.set in
      lands-alike setup payload x past (wire_at 1 h) own.wire set.one heard hosts.played ∙ lands-told setup payload (other x) past (landing 1 x past)

  pub would-complete : is_some (would_complete (wire_at 1 h)) ≡ does_something (told setup payload past (Complete 1 x))
  would-complete =
      let own = hosts.own in
      let set = hosts.set in
      completes-alike setup payload x past (wire_at 1 h) own.wire set.one heard hosts.played ∙ completes-told (completing 1 x past)
