use Rattle.std.proofs.Common.{◌∙◌, ◌-◌, ◌≤◌, map, set, take, sym, ap, subst}
use Rattle.std.proofs.lemmas.List.{length-set}
use Rattle.smc_num.specs.declared.LinkPhase.TheVariants.{Pending}
use Rattle.smc_num.specs.Links.{put}
use Rattle.smc_num.specs.declared.LinkId.{LinkId}
use Rattle.failover.specs.Tables.{Links, known_in}
use Rattle.failover.proofs.Shown.{IsShown, link_made, count_made, order_made}
use Rattle.failover.proofs.LinkTable.make.Goals as goal

pub invariant_of-self : goal.invariant_of-self
invariant_of-self c =
    let t = c.self.inside in
    let inv = c.self.invariant in
    let shown : IsShown t.slots t.phases t.latest = record { slots = inv.0; phases = inv.1; links = inv.2; order = inv.3 } in
    let high : c.args.link.slot ≤ t.slots = subst (λ v. c.args.link.slot ≤ v.slots) (sym c.self.view_is) c.requires.slot.1 in
    (inv.0, length-set _ _ _ ∙ inv.1, length-set _ _ _ ∙ inv.2, order_made t.slots t.phases t.latest shown c.args.link c.requires.slot.0 high)

pub returns : goal.returns
returns c =
    let t = c.self.inside in
    let inv = c.self.invariant in
    let shown : IsShown t.slots t.phases t.latest = record { slots = inv.0; phases = inv.1; links = inv.2; order = inv.3 } in
    let high : c.args.link.slot ≤ t.slots = subst (λ v. c.args.link.slot ≤ v.slots) (sym c.self.view_is) c.requires.slot.1 in
    ap (λ ks. let v : Links = record { slots = t.slots; known = ks; made = map (λ (l : LinkId). l.incarnation) (take t.slots (set t.latest (c.args.link.slot - 1) c.args.link)) } in v) (link_made t.slots t.phases t.latest shown c.args.link c.requires.slot.0 high)
    ∙ ap (λ ms. let v : Links = record { slots = t.slots; known = put (record { link = c.args.link; phase = Pending }) (known_in (take t.slots t.phases) (take t.slots t.latest)); made = ms } in v) (count_made t.slots t.phases t.latest shown c.args.link c.requires.slot.0 high)
    ∙ ap (λ (v : Links). let w : Links = record v { known = put (record { link = c.args.link; phase = Pending }) v.known; made = set v.made (c.args.link.slot - 1) c.args.link.incarnation } in w) c.self.view_is
