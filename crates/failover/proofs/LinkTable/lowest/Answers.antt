use Rattle.std.proofs.Common.{◌∙◌, unwrap_or, option_map, ap}
use Rattle.smc_num.specs.declared.LinkId.{LinkId}
use Rattle.smc_num.specs.Links.{first_live}
use Rattle.failover.proofs.Shown.{IsShown, lowest_shown}
use Rattle.failover.proofs.LinkTable.lowest.Goals as goal

pub returns : goal.returns
returns c =
    let t = c.self.inside in
    let inv = c.self.invariant in
    let shown : IsShown t.slots t.phases t.latest = record { slots = inv.0; phases = inv.1; links = inv.2; order = inv.3 } in
    c.unwrap_or.ensures ∙ ap (λ o. unwrap_or o 0)
    (c.lowest_live.ensures ∙ (lowest_shown t.slots t.phases t.latest shown ∙ ap (λ v. option_map (λ (link : LinkId). link.slot) (first_live v.known)) c.self.view_is))
