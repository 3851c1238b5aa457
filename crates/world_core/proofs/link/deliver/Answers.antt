use Rattle.std.proofs.Common.{◌≡◌, ◌∙◌, ap, refl, subst, sym, Some}
use Rattle.pipe_model.specs.declared.event.Event.TheVariants.{Deliver}
use Rattle.pipe_model.specs.declared.reply.Reply.TheVariants.{Idle}
use Rattle.rc_link.specs.Wire.{landing, with_landed}
use Rattle.world_core.specs.Hosts.{IsPlayedBy, wire_at}
use Rattle.world_core.specs.declared.host.Host.{Host}
use Rattle.world_core.proofs.LandingsAfter.{IsLeft, idle-lands, left-by}
use Rattle.world_core.proofs.link.deliver.Goals as goal

pub land-requires-in-Some-clause-landed : goal.land-requires-in-Some-clause-landed
land-requires-in-Some-clause-landed c =
    let h : Host = c.args.own.now in
    let g : Host = record { core = h.core; wires = c.land.new.wires; flows = h.flows } in
    let did = c.land.ensures in
    let left : IsLeft h g = left-by c.args.slot c.requires.slot h g did.wire refl refl in
    let first : landing (wire_at 1 h) ≡ Some c.in-Some.landed = ap (λ k. landing (wire_at k h)) (sym c.requires.slot) ∙ (sym did.post ∙ c.in-Some.is) in
    (c.requires.hosts.0, record { was = h; first = first; wire = left.wire ∙ ap (λ o. with_landed o (wire_at 1 h)) first; core = refl; flows = refl; hosts = c.requires.hosts.1 })

pub returns-in-None : goal.returns-in-None
returns-in-None c = λ x hosts.
    let h : Host = c.args.own.now in
    let g : Host = record { core = h.core; wires = c.land.new.wires; flows = h.flows } in
    let did = c.land.ensures in
    let none = ap (λ k. landing (wire_at k h)) (sym c.requires.slot) ∙ (sym did.post ∙ c.in-None.is) in
    subst (λ k. IsPlayedBy c.args.moment (Deliver k x) Idle c.args.posts.now.items x g c.args.theirs.now) (sym c.requires.slot)
    (idle-lands c.args.moment x h c.args.theirs.now hosts c.requires.few g c.args.posts.now.items none c.requires.none (left-by c.args.slot c.requires.slot h g did.wire refl refl))

pub returns-in-Some : goal.returns-in-Some
returns-in-Some c = λ x hosts.
    let h : Host = c.args.own.now in
    let g : Host = record { core = h.core; wires = c.land.new.wires; flows = h.flows } in
    let did = c.land.ensures in
    let left : IsLeft h g = left-by c.args.slot c.requires.slot h g did.wire refl refl in
    let first : landing (wire_at 1 h) ≡ Some c.in-Some.landed = ap (λ k. landing (wire_at k h)) (sym c.requires.slot) ∙ (sym did.post ∙ c.in-Some.is) in
    let t = c.land-in-Some in
    subst (λ k. IsPlayedBy c.args.moment (Deliver k x) t.result t.new.posts.items x g t.new.theirs) (sym c.requires.slot)
    (t.ensures x (record { was = h; first = first; wire = left.wire ∙ ap (λ o. with_landed o (wire_at 1 h)) first; core = refl; flows = refl; hosts = hosts }))
