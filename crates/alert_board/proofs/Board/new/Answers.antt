use Rattle.std.proofs.Common.{rules, ap, sym, ◌∙◌, map, length, []}
use Rattle.atomic_table.specs.Seated.{TableId}
use Rattle.alert_board.proofs.Moves.{opens}
use Rattle.alert_board.proofs.Numbers.{numbers_none, length_replicate}
use Rattle.alert_board.proofs.Board.new.Goals as goal

pub of_words-requires : goal.of_words-requires
of_words-requires c = opens (Unit {0}) _ c.args.places (search rules)

pub invariant_of-pen : goal.invariant_of-pen
invariant_of-pen c = (
  ap (λ x. x.1) c.in_ok-table.ensures.4,
  ap (λ x. x.0.pen) c.in_ok-table.ensures.4,
  (search rules) ∙ numbers_none c.args.places ∙ sym (ap (λ x. map length x.0.logs) c.in_ok-table.ensures.4),
  ap (λ x. length x.0.logs) c.in_ok-table.ensures.4 ∙ length_replicate c.args.places [] ∙ sym (ap (λ (z : TableId). z.words) c.in_ok-table.ensures.2 ∙ c.in_ok-table.ensures.0 ∙ search (rules, length_replicate)),
)
