use Rattle.std.proofs.Common.{◌≡◌, ◌∙◌, ◌≤◌, true, refl, sym, ap, subst, map, take}
use Rattle.smc_num.specs.declared.LinkPhase.TheVariants.{Dead}
use Rattle.smc_num.specs.Links.{is_standing, phase_at, set_phase}
use Rattle.smc_num.specs.declared.LinkId.{LinkId}
use Rattle.failover.specs.Tables.{Links}
use Rattle.failover.proofs.Shown.{IsShown, phase_changed, standing_used}
use Rattle.failover.proofs.LinkTable.report.Goals as goal

pub returns : goal.returns
returns c =
    let t = c.self.inside in
    let inv = c.self.invariant in
    let shown : IsShown t.slots t.phases t.latest = record { slots = inv.0; phases = inv.1; links = inv.2; order = inv.3 } in
    let high : c.args.slot ≤ t.slots = subst (λ v. c.args.slot ≤ v.slots) (sym c.self.view_is) c.requires.slot.1 in
    let used = standing_used _ (subst (λ v. is_standing (phase_at c.args.slot v.known) ≡ true) (sym c.self.view_is) c.requires.stands) in
    ap (λ ks. let v : Links = record { slots = t.slots; known = ks; made = map (λ (l : LinkId). l.incarnation) (take t.slots t.latest) } in v) (phase_changed t.slots t.phases t.latest shown c.args.slot Dead c.requires.slot.0 high used refl)
    ∙ ap (λ (v : Links). let w : Links = record v { known = set_phase c.args.slot Dead v.known } in w) c.self.view_is
