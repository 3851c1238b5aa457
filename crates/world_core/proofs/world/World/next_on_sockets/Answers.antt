-- The sockets that were opened are known ones.
use Rattle.std.proofs.Common.{◌<◌, ◌∙◌, List, ℕ, sym, subst}
use Rattle.std.specs.List.{All}
use Rattle.world_core.specs.Steps.{Seen, past}
use Rattle.world_core.proofs.WorldAfter.{all-known}
use Rattle.world_core.proofs.world.World.next_on_sockets.Goals as goal

pub next_on_these-requires : goal.next_on_these-requires
next_on_these-requires c =
    let v = c.self.inside in
    let w : Seen = record { setup = v.setup; payload = v.payload.items; room = v.room; history = v.history.items; heard = v.heard.items } in
    let k = c.self.invariant in
    let h = k.hosts in
    subst (λ (u : Seen). All (λ s. s < u.setup.sockets) c.deref.result.now) c.self.view_is
    (subst (λ (os : List ℕ). All (λ s. s < v.setup.sockets) os) (sym (c.deref.ensures.value ∙ k.order)) (all-known w.setup w.payload (past w) _ h.played))
