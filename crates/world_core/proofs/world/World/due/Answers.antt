-- Only a read hands out bytes, and how many shows its hosts.
use Rattle.std.proofs.Common.{◌≡◌, length, subst, sym}
use Rattle.smc_num.specs.declared.Side.TheVariants.{A}
use Rattle.pipe_model.specs.Fits.{Fits}
use Rattle.world_core.specs.Played.{handed}
use Rattle.world_core.specs.Hosts.{KnowSocket}
use Rattle.world_core.specs.Steps.{Seen, past, told_by}
use Rattle.world_core.proofs.OnlyReads.{none-long, only_reads}
use Rattle.world_core.proofs.world.World.due.Goals as goal

pub due_on-requires : goal.due_on-requires
due_on-requires c =
    let v = c.self.inside in
    let w : Seen = record { setup = v.setup; payload = v.payload.items; room = v.room; history = v.history.items; heard = v.heard.items } in
    let k = c.self.invariant in
    let known = subst (λ event. Fits w.setup (length w.payload) event) c.in-Read.is (subst (λ (u : Seen). Fits u.setup (length u.payload) c.args.event) (sym c.self.view_is) c.requires.fits) in
    record { setup = w.setup; payload = w.payload; past = past w; heard = length w.heard; hosts = k.hosts; known = known }

pub returns-in-Read : goal.returns-in-Read
returns-in-Read c =
    let v = c.self.inside in
    let w : Seen = record { setup = v.setup; payload = v.payload.items; room = v.room; history = v.history.items; heard = v.heard.items } in
    let k = c.self.invariant in
    let known = subst (λ event. Fits w.setup (length w.payload) event) c.in-Read.is (subst (λ (u : Seen). Fits u.setup (length u.payload) c.args.event) (sym c.self.view_is) c.requires.fits) in
    let here : KnowSocket c.in-Read.end.s A v.a v.b = record { setup = w.setup; payload = w.payload; past = past w; heard = length w.heard; hosts = k.hosts; known = known } in
    subst (λ (u : Seen). c.due_on.result ≡ handed (told_by u c.args.event)) c.self.view_is
    (subst (λ event. c.due_on.result ≡ handed (told_by w event)) (sym c.in-Read.is) (c.due_on.ensures here))

pub returns-in_default : goal.returns-in_default
returns-in_default c =
    let w = c.args.self.now in
    none-long (told_by w c.args.event) (only_reads w.setup w.payload (past w) (length w.payload) c.args.event c.requires.fits c.in_default.not-Read)
