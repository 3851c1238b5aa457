use Rattle.std.proofs.Common.{◌≡◌, ◌∙◌, ◌≤◌, refl, sym, ap, subst, map, take}
use Rattle.smc_num.specs.declared.LinkPhase.TheVariants.{Unused, Pending, Live}
use Rattle.smc_num.specs.Links.{same_phase, phase_at, set_phase}
use Rattle.smc_num.specs.declared.LinkId.{LinkId}
use Rattle.failover.specs.Tables.{Links}
use Rattle.failover.proofs.Shown.{IsShown, phase_changed}
use Rattle.failover.proofs.LinkTable.confirm.Goals as goal

pub returns : goal.returns
returns c =
    let t = c.self.inside in
    let inv = c.self.invariant in
    let shown : IsShown t.slots t.phases t.latest = record { slots = inv.0; phases = inv.1; links = inv.2; order = inv.3 } in
    let high : c.args.slot ≤ t.slots = subst (λ v. c.args.slot ≤ v.slots) (sym c.self.view_is) c.requires.slot.1 in
    let used = ap (λ p. same_phase p Unused) (subst (λ v. phase_at c.args.slot v.known ≡ Pending) (sym c.self.view_is) c.requires.pending) in
    ap (λ ks. let v : Links = record { slots = t.slots; known = ks; made = map (λ (l : LinkId). l.incarnation) (take t.slots t.latest) } in v) (phase_changed t.slots t.phases t.latest shown c.args.slot Live c.requires.slot.0 high used refl)
    ∙ ap (λ (v : Links). let w : Links = record v { known = set_phase c.args.slot Live v.known } in w) c.self.view_is
