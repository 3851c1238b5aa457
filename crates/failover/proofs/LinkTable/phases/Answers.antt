use Rattle.std.proofs.Common.{◌∙◌, map, option_map, take, ap, subst, arith}
use Rattle.std.proofs.lemmas.List.{length-take-le}
use Rattle.smc_num.specs.declared.LinkId.{LinkId}
use Rattle.smc_num.specs.Names.{up_to}
use Rattle.smc_num.specs.Links.{phase_at, first_live}
use Rattle.failover.specs.Tables.{Links, AreRising}
use Rattle.failover.proofs.Lightest.{rising_in}
use Rattle.failover.proofs.Shown.{IsShown, phases_shown, lowest_shown}
use Rattle.failover.proofs.LinkTable.phases.Goals as goal

pub returns-clause-phases : goal.returns-clause-phases
returns-clause-phases c =
    let t = c.self.inside in
    let inv = c.self.invariant in
    let shown : IsShown t.slots t.phases t.latest = record { slots = inv.0; phases = inv.1; links = inv.2; order = inv.3 } in
    phases_shown t.slots t.phases t.latest shown ∙ ap (λ v. map (λ k. phase_at k v.known) (up_to v.slots)) c.self.view_is

pub returns-clause-lowest : goal.returns-clause-lowest
returns-clause-lowest c =
    let t = c.self.inside in
    let inv = c.self.invariant in
    let shown : IsShown t.slots t.phases t.latest = record { slots = inv.0; phases = inv.1; links = inv.2; order = inv.3 } in
    lowest_shown t.slots t.phases t.latest shown ∙ ap (λ v. option_map (λ (link : LinkId). link.slot) (first_live v.known)) c.self.view_is

pub returns-clause-rising : goal.returns-clause-rising
returns-clause-rising c =
    let t = c.self.inside in
    let inv = c.self.invariant in
    let some = inv.0 in
    let all = inv.2 in
    let long = length-take-le t.slots t.latest (omega (arith, some, all)) in
    subst (λ (v : Links). AreRising 1 v.slots v.known) c.self.view_is (rising_in 1 t.slots (take t.slots t.phases) (take t.slots t.latest) inv.3 (omega (arith, long)))
