use Rattle.std.proofs.Common.{sym, subst, lit<, arith}
use Rattle.pipe_model.specs.Flows.{Drop}
use Rattle.llc_flows.specs.Slots.{AreApart}
use Rattle.llc_flows.proofs.Apart.{room_for, none_turned}
use Rattle.llc_flows.proofs.slots.put_drop.Goals as goal

pub insert-requires : goal.insert-requires
insert-requires c =
    let slot : Drop → _ = λ d. d.slot in
    let none = none_turned slot c.args.deletion.slot c.args.drops.now.items c.requires.none in
    let room = room_for slot c.args.deletion c.args.drops.now.items ((c.requires.slot.0, c.requires.slot.1, none), c.requires.apart) in
    (lit< tt, (omega arith, room))

pub returns-clause-apart : goal.returns-clause-apart
returns-clause-apart c =
    let slot : Drop → _ = λ d. d.slot in
    let none = none_turned slot c.args.deletion.slot c.args.drops.now.items c.requires.none in
    subst (λ ds. AreApart slot ds) (sym c.insert.ensures.items) ((c.requires.slot.0, c.requires.slot.1, none), c.requires.apart)
