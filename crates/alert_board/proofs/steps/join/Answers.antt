use Rattle.std.proofs.Common.{ap, sym, ◌∙◌, refl}
use mathlib.Core.Option.{none}
use Rattle.atomic_table.specs.Table.{step}
use Rattle.alert_board.specs.Alerts.{earlier_of, later_of, news_at}
use Rattle.alert_board.proofs.Logs.{both_later, news_at-each_of}
use Rattle.alert_board.proofs.Moves.{joins, orders}
use Rattle.alert_board.proofs.steps.join.Goals as goal

pub join_seat-requires : goal.join_seat-requires
join_seat-requires c = (c.requires.table.0, c.requires.table.1, c.requires.idle, c.requires.table.2, joins _ _ _ _)

pub load-requires : goal.load-requires
load-requires c = (c.join_seat.ensures.0 ∙ c.requires.table.0, c.requires.table.2, orders _ _ c.join_seat.new.seat.me (step c.args.table.now.table_id.slots 0 0 0 none))

pub returns-clause-later : goal.returns-clause-later
returns-clause-later c p =
    let old = c.args.seat.now.me.0.seen in let other = c.args.other.me.0.seen in
    let long = c.requires.places.0 ∙ sym c.requires.places.1 in
    let view = ap (λ x. x.0) (c.load.ensures.2.0 ∙ c.join_seat.ensures.2) in
    both_later (news_at old p) (news_at other p) (news_at c.load.new.seat.me.0.seen p) (news_at c.load.new.seat.me.0.told p)
    (ap (λ v. news_at v.seen p) view ∙ news_at-each_of later_of old other p long refl)
    (ap (λ v. news_at v.told p) view ∙ news_at-each_of earlier_of old other p long refl)
    (rw c.load.ensures.2.0 (c.load.ensures.2.1 p))
