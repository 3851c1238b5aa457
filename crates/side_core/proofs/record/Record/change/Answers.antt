use Rattle.conn_end.specs.Kept.{Kept}
use Rattle.side_core.specs.Slots.{conn_of}
use Rattle.side_core.proofs.Ends.{IsMakeable, makeable, makes_leave, makes_stands, set_after, number_after, settled}
use Rattle.side_core.proofs.record.Record.change.Goals as goal

pub post_due-requires-clause-set : goal.post_due-requires-clause-set
post_due-requires-clause-set c =
    let k : Kept = c.args.self.now.end in
    let some : IsMakeable k.size c.args.change k = makeable k.size c.args.change k c.requires.set.kept c.requires.may in
    set_after (conn_of c.args.self.now) c.make-reply.new.end (some.act some.end) c.requires.set c.make-reply.ensures.terms c.make-reply.ensures.owes (c.make-reply.ensures.end some.end some.act some.makes)

pub post_due-requires-clause-number : goal.post_due-requires-clause-number
post_due-requires-clause-number c =
    let k : Kept = c.args.self.now.end in
    let some : IsMakeable k.size c.args.change k = makeable k.size c.args.change k c.requires.set.kept c.requires.may in
    number_after k c.make-reply.new.end some.end (some.act some.end) (makes_stands k.size c.args.change k some.end some.act some.makes) (c.make-reply.ensures.end some.end some.act some.makes)
    ((makes_leave k.size c.args.change k some.end some.act some.makes).alike some.end) c.requires.number

pub returns-clause-end : goal.returns-clause-end
returns-clause-end c = λ h act makes live.
    let k : Kept = c.args.self.now.end in
    settled k c.make-reply.new.end c.post_due.new.self.end (act h) c.make-reply.ensures.terms (c.post_due.ensures.end (act h) (c.make-reply.ensures.end h act makes) live)
