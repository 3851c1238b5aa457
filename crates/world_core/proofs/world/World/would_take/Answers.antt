-- An end would take the next message of its peer just where the event does something.
use Rattle.std.proofs.Common.{◌≡◌, ◌<◌, ◌∙◌, Bool, List, ap, length, subst, sym}
use Rattle.smc_num.specs.declared.Side.TheVariants.{A, B}
use Rattle.pipe_model.specs.declared.event.Event.TheVariants.{Clc}
use Rattle.world_core.specs.Steps.{Seen, does_something, past, told_by}
use Rattle.world_core.proofs.HostsSwapped.{turned}
use Rattle.world_core.proofs.TakingsAfter.{would-be-taken}
use Rattle.world_core.proofs.WorldAfter.{up-after}
use Rattle.world_core.proofs.world.World.would_take.Goals as goal

pub would_take-requires-clause-paths : goal.would_take-requires-clause-paths
would_take-requires-clause-paths c =
    let v = c.self.inside in
    let w : Seen = record { setup = v.setup; payload = v.payload.items; room = v.room; history = v.history.items; heard = v.heard.items } in
    let k = c.self.invariant in
    ap (λ (ps : List Bool). length ps) (c.deref.ensures.value ∙ (k.paths_are ∙ up-after w.setup w.payload (past w) (length w.heard) A v.a v.b k.hosts))

pub would_take-requires-in-B-clause-paths : goal.would_take-requires-in-B-clause-paths
would_take-requires-in-B-clause-paths c =
    let v = c.self.inside in
    let w : Seen = record { setup = v.setup; payload = v.payload.items; room = v.room; history = v.history.items; heard = v.heard.items } in
    let k = c.self.invariant in
    ap (λ (ps : List Bool). length ps) (c.deref-in-B.ensures.value ∙ (k.paths_are ∙ up-after w.setup w.payload (past w) (length w.heard) A v.a v.b k.hosts))

pub returns-in-A : goal.returns-in-A
returns-in-A c =
    let v = c.self.inside in
    let w : Seen = record { setup = v.setup; payload = v.payload.items; room = v.room; history = v.history.items; heard = v.heard.items } in
    let k = c.self.invariant in
    subst (λ (u : Seen). c.would_take.result ≡ does_something (told_by u (Clc c.args.s c.args.dir))) c.self.view_is
    (c.would_take.ensures ∙ would-be-taken w.setup w.payload (past w) (length w.heard) c.args.s A v.b v.a (turned w.setup w.payload (past w) (length w.heard) v.a v.b k.hosts) (subst (λ (u : Seen). c.args.s < u.setup.sockets) (sym c.self.view_is) c.requires) c.deref.result.now (c.deref.ensures.value ∙ k.paths_are) ∙ ap (λ x. does_something (told_by w (Clc c.args.s x))) (sym c.in-A.is))

pub returns-in-B : goal.returns-in-B
returns-in-B c =
    let v = c.self.inside in
    let w : Seen = record { setup = v.setup; payload = v.payload.items; room = v.room; history = v.history.items; heard = v.heard.items } in
    let k = c.self.invariant in
    subst (λ (u : Seen). c.would_take-in-B.result ≡ does_something (told_by u (Clc c.args.s c.args.dir))) c.self.view_is
    (c.would_take-in-B.ensures ∙ would-be-taken w.setup w.payload (past w) (length w.heard) c.args.s B v.a v.b k.hosts (subst (λ (u : Seen). c.args.s < u.setup.sockets) (sym c.self.view_is) c.requires) c.deref-in-B.result.now (c.deref-in-B.ensures.value ∙ k.paths_are) ∙ ap (λ x. does_something (told_by w (Clc c.args.s x))) (sym c.in-B.is))
