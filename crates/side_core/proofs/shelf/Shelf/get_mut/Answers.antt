use Rattle.std.proofs.Common.{◌≡◌, ◌∙◌, Some, None, get_or, refl, sym, ap, subst, IsSome, is_some}
use Rattle.slab.specs.Slab.{get}
use Rattle.side_core.specs.Slots.{Slots, slot_at, with_slot, conn_of}
use Rattle.side_core.specs.declared.shelf.Held.{Held}
use Rattle.side_core.proofs.Sockets.{key_here, finds, written}
use Rattle.side_core.proofs.shelf.Shelf.get_mut.Goals as goal

pub returns : goal.returns
returns c =
    let x = c.self.inside in
    let h : Held = c.in-Some-get_mut.held.now in
    let is : get_or x.keys.items c.args.s None ≡ Some c.in-Some.key =
    key_here x.held.slots x.keys.items c.args.s c.in-Some.key c.index.result.now (subst (λ (v : Slots). IsSome (slot_at c.args.s v)) (sym c.self.view_is) c.requires) c.index.ensures c.in-Some.is in
    let here : get x.held c.in-Some.key ≡ Some h = sym c.in-Some-get_mut.ensures.value in (
      (refl, λ w. written x.held x.keys.items c.args.s c.in-Some.key (record { s = h.s; «record» = w }) c.self.invariant is (ap is_some here) ∙ ap (with_slot c.args.s (Some (conn_of w))) c.self.view_is),
      record { lends = tt; value = ap (slot_at c.args.s) (sym c.self.view_is) ∙ finds x.held x.keys.items c.args.s c.in-Some.key h is here },
    )
