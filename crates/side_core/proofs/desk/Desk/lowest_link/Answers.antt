use Rattle.std.proofs.Common.{◌∙◌, ap}
use Rattle.smc_num.specs.Links.{link_at, lowest_live}
use Rattle.side_core.proofs.desk.Desk.lowest_link.Goals as goal

-- src/desk.rt:239:5
pub returns : goal.returns
returns c = c.link.ensures ∙ ap (λ k. link_at k c.self.inside.links.known) c.lowest-slot.ensures ∙ ap (λ d. link_at (lowest_live d.links.known) d.links.known) c.self.view_is
