use Rattle.std.proofs.Common.{◌∙◌, ◌-◌, ◌≤◌, Some, None, get_or, sym, ap, take, option_map, arith}
use Rattle.std.specs.Prelude.{if◌then◌else◌}
use Rattle.smc_num.specs.declared.LinkPhase.TheVariants.{Unused}
use Rattle.smc_num.specs.Names.{no_link}
use Rattle.smc_num.specs.Links.{Known, same_phase, link_at}
use Rattle.std.proofs.lemmas.List.{length-take-le}
use Rattle.failover.proofs.KnownLinks.{none_below, none_above}
use Rattle.failover.proofs.Shown.{IsShown, link_shown, other_used}
use Rattle.failover.proofs.LinkTable.link.Goals as goal

pub returns-in-Unused : goal.returns-in-Unused
returns-in-Unused c =
    let t = c.self.inside in
    let inv = c.self.invariant in
    let shown : IsShown t.slots t.phases t.latest = record { slots = inv.0; phases = inv.1; links = inv.2; order = inv.3 } in
    let high : c.args.slot ≤ t.slots = c.if-self-slot.false in
    let low : 1 ≤ c.args.slot = omega (arith, c.if-slot-eq0.false) in
    sym (ap (λ v. link_at c.args.slot v.known) (sym c.self.view_is) ∙ link_shown t.slots t.phases t.latest shown c.args.slot low high
    ∙ ap (λ p. if same_phase p Unused then None else Some (get_or t.latest (c.args.slot - 1) no_link)) c.in-Unused.is)

pub returns-in_default : goal.returns-in_default
returns-in_default c =
    let t = c.self.inside in
    let inv = c.self.invariant in
    let shown : IsShown t.slots t.phases t.latest = record { slots = inv.0; phases = inv.1; links = inv.2; order = inv.3 } in
    let high : c.args.slot ≤ t.slots = c.if-self-slot.false in
    let low : 1 ≤ c.args.slot = omega (arith, c.if-slot-eq0.false) in
    sym (ap (λ v. link_at c.args.slot v.known) (sym c.self.view_is) ∙ link_shown t.slots t.phases t.latest shown c.args.slot low high
    ∙ ap (λ b. if b then None else Some (get_or t.latest (c.args.slot - 1) no_link)) (other_used _ c.in_default.not-Unused))

pub returns-then-slot-eq0 : goal.returns-then-slot-eq0
returns-then-slot-eq0 c =
    let t = c.self.inside in
    let inv = c.self.invariant in
    sym (ap (λ v. link_at c.args.slot v.known) (sym c.self.view_is)
    ∙ ap (λ o. option_map (λ (k : Known). k.link) o) (none_below 1 c.args.slot (take t.slots t.phases) (take t.slots t.latest) (omega (arith, c.if-slot-eq0.true)) inv.3))

pub returns-then-self-slot : goal.returns-then-self-slot
returns-then-self-slot c =
    let t = c.self.inside in
    let inv = c.self.invariant in
    let above = c.if-self-slot.true in
    let few = inv.0 in
    let all = inv.2 in
    let long = length-take-le t.slots t.latest (omega (arith, few, all)) in
    sym (ap (λ v. link_at c.args.slot v.known) (sym c.self.view_is)
    ∙ ap (λ o. option_map (λ (k : Known). k.link) o) (none_above 1 c.args.slot (take t.slots t.phases) (take t.slots t.latest) (omega (arith, above, long)) inv.3))
