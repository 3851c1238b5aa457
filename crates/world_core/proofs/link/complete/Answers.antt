use Rattle.std.proofs.Common.{◌≡◌, ◌∙◌, ap, refl, subst, sym, Some}
use Rattle.pipe_model.specs.declared.event.Event.TheVariants.{Complete}
use Rattle.pipe_model.specs.declared.reply.Reply.TheVariants.{Idle, Completed}
use Rattle.rc_link.specs.Wire.{completing, with_completed}
use Rattle.world_core.specs.Hosts.{IsPlayedBy, wire_at}
use Rattle.world_core.specs.declared.host.Host.{Host}
use Rattle.world_core.proofs.CompletionsAfter.{IsDoneWith, idle-completes, done-by}
use Rattle.world_core.proofs.link.complete.Goals as goal

pub finish-requires-clause-completed : goal.finish-requires-clause-completed
finish-requires-clause-completed c =
    let h : Host = c.args.own.now in
    let g : Host = record { core = h.core; wires = c.complete.new.wires; flows = h.flows } in
    let did = c.complete.ensures in
    let left : IsDoneWith h g = done-by c.args.slot c.requires.slot h g did.wire refl refl in
    let first : completing (wire_at 1 h) ≡ Some c.in-Some.done = ap (λ k. completing (wire_at k h)) (sym c.requires.slot) ∙ (sym did.post ∙ c.in-Some.is) in
    (c.requires.hosts.0, c.requires.hosts.1, record { was = h; first = first; wire = left.wire ∙ ap (λ o. with_completed o (wire_at 1 h)) first; core = refl; flows = refl; hosts = c.requires.hosts.2 })

pub returns-in_default : goal.returns-in_default
returns-in_default c = λ x theirs hosts.
    let h : Host = c.args.own.now in
    let g : Host = record { core = h.core; wires = c.complete.new.wires; flows = h.flows } in
    let did = c.complete.ensures in
    let none = ap (λ k. completing (wire_at k h)) (sym c.requires.slot) ∙ (sym did.post ∙ c.in_default.is) in
    subst (λ k. IsPlayedBy c.args.moment (Complete k x) Idle c.args.posts.now.items x g theirs) (sym c.requires.slot)
    (idle-completes c.args.moment x h theirs hosts c.requires.few g c.args.posts.now.items none c.requires.none (done-by c.args.slot c.requires.slot h g did.wire refl refl))

pub returns : goal.returns
returns c = λ x theirs hosts.
    let h : Host = c.args.own.now in
    let g : Host = record { core = h.core; wires = c.complete.new.wires; flows = h.flows } in
    let did = c.complete.ensures in
    let left : IsDoneWith h g = done-by c.args.slot c.requires.slot h g did.wire refl refl in
    let first : completing (wire_at 1 h) ≡ Some c.in-Some.done = ap (λ k. completing (wire_at k h)) (sym c.requires.slot) ∙ (sym did.post ∙ c.in-Some.is) in
    let t = c.finish in
    let done = c.in-Some.done in
    subst (λ k. IsPlayedBy c.args.moment (Complete k x) (Completed done.at) t.new.posts.items x t.new.own theirs) (sym c.requires.slot)
    (t.ensures x theirs (record { was = h; first = first; wire = left.wire ∙ ap (λ o. with_completed o (wire_at 1 h)) first; core = refl; flows = refl; hosts = hosts }))
