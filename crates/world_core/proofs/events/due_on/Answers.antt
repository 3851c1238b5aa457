-- The host of the end is asked.
use Rattle.std.proofs.Common.{◌≡◌, subst, sym}
use Rattle.pipe_model.specs.Replies.{told}
use Rattle.pipe_model.specs.declared.event.Event.TheVariants.{Read}
use Rattle.world_core.specs.Played.{handed}
use Rattle.world_core.specs.Hosts.{KnowSocket}
use Rattle.world_core.proofs.HostsSwapped.{knows-turned}
use Rattle.world_core.proofs.events.due_on.Goals as goal

pub due_bytes-requires : goal.due_bytes-requires
due_bytes-requires c = subst (λ x. KnowSocket c.args.end.s x c.args.a.now c.args.b.now) (sym c.in-A.is) c.requires

pub due_bytes-requires-in-B : goal.due_bytes-requires-in-B
due_bytes-requires-in-B c = subst (λ x. KnowSocket c.args.end.s x c.args.b.now c.args.a.now) (sym c.in-B.is) (knows-turned c.requires)

pub returns-in-A : goal.returns-in-A
returns-in-A c =
    subst (λ x. (k : KnowSocket c.args.end.s x c.args.a.now c.args.b.now) → c.due_bytes.result ≡ handed (told k.setup k.payload k.past (Read c.args.end c.args.len))) c.in-A.is c.due_bytes.ensures

pub returns-in-B : goal.returns-in-B
returns-in-B c = λ k.
    subst (λ x. (k : KnowSocket c.args.end.s x c.args.b.now c.args.a.now) → c.due_bytes-in-B.result ≡ handed (told k.setup k.payload k.past (Read c.args.end c.args.len))) c.in-B.is c.due_bytes-in-B.ensures
    (knows-turned k)
