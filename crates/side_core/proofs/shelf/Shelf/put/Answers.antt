use Rattle.std.proofs.Common.{◌∙◌, Some, ap, set, refl}
use Rattle.side_core.specs.Slots.{Slots, conn_of}
use Rattle.side_core.specs.declared.shelf.Held.{Held}
use Rattle.side_core.proofs.Sockets.{put_slots, put_owns, key_within}
use Rattle.side_core.proofs.shelf.Shelf.put.Goals as goal

pub invariant_of-self : goal.invariant_of-self
invariant_of-self c =
    let x = c.self.inside in
    let i = c.insert_reserved-key in
    let h : Held = record { s = c.args.s; «record» = c.args.filed } in
    put_owns x.held i.new.self x.keys.items c.args.s i.result h (key_within x.held.slots x.keys.items c.args.self.now.slots c.args.s (ap (λ (v : Slots). v.slots) c.self.view_is) c.requires.range) c.self.invariant i.ensures.was_vacant i.ensures.updates refl

pub returns-clause-slots : goal.returns-clause-slots
returns-clause-slots c =
    let x = c.self.inside in
    let i = c.insert_reserved-key in
    let h : Held = record { s = c.args.s; «record» = c.args.filed } in
    put_slots x.held i.new.self x.keys.items c.args.s i.result h (key_within x.held.slots x.keys.items c.args.self.now.slots c.args.s (ap (λ (v : Slots). v.slots) c.self.view_is) c.requires.range) c.self.invariant i.ensures.was_vacant i.ensures.updates refl
    ∙ ap (λ (v : Slots). set v.slots c.args.s (Some (conn_of c.args.filed))) c.self.view_is
