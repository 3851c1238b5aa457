use Rattle.std.proofs.Common.{◌∙◌, ◌≤◌, ◌-◌, ◌&&◌, get_or, inl, inr, sym, ap, arith}
use Rattle.smc_num.specs.Names.{has_link, same_link, no_link}
use Rattle.smc_num.specs.Links.{live_links}
use Rattle.failover.proofs.Shown.{IsShown, live_shown, none_shown}
use Rattle.failover.proofs.LinkTable.is_live.Goals as goal

pub returns-then-self-link : goal.returns-then-self-link
returns-then-self-link c =
    let t = c.self.inside in
    let inv = c.self.invariant in
    let shown : IsShown t.slots t.phases t.latest = record { slots = inv.0; phases = inv.1; links = inv.2; order = inv.3 } in
    sym (ap (λ v. has_link c.args.link (live_links v.known)) (sym c.self.view_is) ∙ none_shown t.slots t.phases t.latest shown c.args.link (inr c.if-self-link.true))

pub returns-then-link-eq0 : goal.returns-then-link-eq0
returns-then-link-eq0 c =
    let t = c.self.inside in
    let inv = c.self.invariant in
    let shown : IsShown t.slots t.phases t.latest = record { slots = inv.0; phases = inv.1; links = inv.2; order = inv.3 } in
    sym (ap (λ v. has_link c.args.link (live_links v.known)) (sym c.self.view_is) ∙ none_shown t.slots t.phases t.latest shown c.args.link (inl (omega (arith, c.if-link-eq0.true))))

pub returns-then-is_live : goal.returns-then-is_live
returns-then-is_live c =
    let t = c.self.inside in
    let inv = c.self.invariant in
    let shown : IsShown t.slots t.phases t.latest = record { slots = inv.0; phases = inv.1; links = inv.2; order = inv.3 } in
    let high : c.args.link.slot ≤ t.slots = c.if-self-link.false in
    let low : 1 ≤ c.args.link.slot = omega (arith, c.if-link-eq0.false) in
    c.eq.ensures ∙ sym (ap (λ v. has_link c.args.link (live_links v.known)) (sym c.self.view_is) ∙ (live_shown t.slots t.phases t.latest shown c.args.link low high
    ∙ ap (λ b. b && same_link c.args.link (get_or t.latest (c.args.link.slot - 1) no_link)) (sym c.is_live.ensures ∙ c.if-is_live.true)))

pub returns-else-is_live : goal.returns-else-is_live
returns-else-is_live c =
    let t = c.self.inside in
    let inv = c.self.invariant in
    let shown : IsShown t.slots t.phases t.latest = record { slots = inv.0; phases = inv.1; links = inv.2; order = inv.3 } in
    let high : c.args.link.slot ≤ t.slots = c.if-self-link.false in
    let low : 1 ≤ c.args.link.slot = omega (arith, c.if-link-eq0.false) in
    c.if-is_live.false ∙ sym (ap (λ v. has_link c.args.link (live_links v.known)) (sym c.self.view_is) ∙ (live_shown t.slots t.phases t.latest shown c.args.link low high
    ∙ ap (λ b. b && same_link c.args.link (get_or t.latest (c.args.link.slot - 1) no_link)) (sym c.is_live.ensures ∙ c.if-is_live.false)))
