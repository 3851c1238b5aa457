use Rattle.std.proofs.Common.{sym, subst, map}
use Rattle.conn_end.specs.Kept.{Kept}
use Rattle.side_core.specs.Desk.{Desk}
use Rattle.side_core.specs.Fit.{IsManager, IsOneSlot}
use Rattle.side_core.specs.Manager.{Manager, hand_of}
use Rattle.side_core.specs.Landing.{CanMake}
use Rattle.side_core.specs.Desk.{makes_link}
use Rattle.side_core.specs.Taking.{with_desk}
use Rattle.side_core.proofs.Sockets.{makes_fit}
use Rattle.side_core.proofs.Managers.{made_works}
use Rattle.side_core.proofs.side.SideCore.link_made.Goals as goal

pub invariant_of-self : goal.invariant_of-self
invariant_of-self c =
    let x = c.self.inside in
    let v : Manager Kept = record { desk = x.desk; hands = map hand_of x.hands.items; records = x.connections; regions = x.regions.items } in
    let i : IsManager v = c.self.invariant in
    let can : CanMake c.args.link v.desk = subst (λ (u : Manager Kept). CanMake c.args.link u.desk) (sym c.self.view_is) c.requires in
    let one : IsOneSlot v.desk.links.known = subst (λ (d : Desk). IsOneSlot d.links.known) (sym i.stands.works.desk) i.fit.slot in
    let can_plain : CanMake c.args.link i.plain.desk = subst (λ (d : Desk). CanMake c.args.link d) i.stands.works.desk can in
    record {
      plain = with_desk (makes_link c.args.link) i.plain;
      stands = record { works = made_works c.args.link v.desk c.make_link.new.self v.records i.plain can one c.make_link.ensures i.stands.works; hands = i.stands.hands; regions = i.stands.regions };
      fit = makes_fit c.args.link i.plain i.fit can_plain can_plain.begun;
    }
