use Rattle.std.proofs.Common.{◌∙◌, ap}
use Rattle.side_core.proofs.Elements.{begun_offer}
use Rattle.side_core.proofs.desk.Desk.begin.Goals as goal

-- src/desk.rt:369:5
pub returns-clause-offer : goal.returns-clause-offer
returns-clause-offer c = c.offer.ensures ∙ begun_offer c.args.self.now c.begin_group.new.self c.args.s c.next_place-rmb.result.0 c.args.token c.args.link c.begin_group.ensures.desk (ap (λ p. p.rmb) c.next_place-rmb.ensures.place) c.begin_group.ensures.pair c.begin_group.ensures.key
