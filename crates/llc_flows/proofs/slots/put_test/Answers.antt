use Rattle.std.proofs.Common.{sym, subst, lit<, arith}
use Rattle.llc_flows.specs.Slots.{AreApart}
use Rattle.llc_flows.proofs.Apart.{room_for}
use Rattle.llc_flows.proofs.slots.put_test.Goals as goal

pub insert-requires : goal.insert-requires
insert-requires c =
    let room = room_for (λ k. k) c.args.slot c.args.tests.now.items ((c.requires.slot.0, c.requires.slot.1, c.requires.untested), c.requires.apart) in
    (lit< tt, (omega arith, room))

pub returns-clause-apart : goal.returns-clause-apart
returns-clause-apart c =
    subst (λ ks. AreApart (λ k. k) ks) (sym c.insert.ensures.items) ((c.requires.slot.0, c.requires.slot.1, c.requires.untested), c.requires.apart)
