use Rattle.std.proofs.Common.{◌≡◌, ◌∙◌, Some, None, get_or, ap, set, subst, sym, IsSome}
use Rattle.side_core.specs.Slots.{Slots, slot_at}
use Rattle.side_core.proofs.Sockets.{take_slots, take_owns, key_here}
use Rattle.side_core.proofs.shelf.Shelf.take.Goals as goal

pub invariant_of-self : goal.invariant_of-self
invariant_of-self c =
    let x = c.self.inside in
    let is : get_or x.keys.items c.args.s None ≡ Some c.in-Some.key =
    key_here x.held.slots x.keys.items c.args.s c.in-Some.key c.index.result.now (subst (λ (v : Slots). IsSome (slot_at c.args.s v)) (sym c.self.view_is) c.requires) c.index.ensures c.in-Some.is in
    take_owns x.held c.remove.new.self x.keys.items c.args.s c.in-Some.key c.self.invariant is c.remove.ensures.updates

pub returns-clause-slots : goal.returns-clause-slots
returns-clause-slots c =
    let x = c.self.inside in
    let is : get_or x.keys.items c.args.s None ≡ Some c.in-Some.key =
    key_here x.held.slots x.keys.items c.args.s c.in-Some.key c.index.result.now (subst (λ (v : Slots). IsSome (slot_at c.args.s v)) (sym c.self.view_is) c.requires) c.index.ensures c.in-Some.is in
    take_slots x.held c.remove.new.self x.keys.items c.args.s c.in-Some.key c.self.invariant is c.remove.ensures.updates
    ∙ ap (λ (v : Slots). set v.slots c.args.s None) c.self.view_is
