use Rattle.std.proofs.Common.{rules, ap, sym, ◌∙◌, ◌≡◌, ◌+◌, ◌++◌, ◌∷◌, [], map, length}
use Rattle.std.specs.Prelude.{slice_set, slice_index}
use Rattle.std.proofs.lemmas.List.{length-set, get_or_default, length-map}
use Rattle.atomic_table.specs.Seated.{TableId}
use Rattle.alert_board.specs.Alerts.{log_at}
use Rattle.alert_board.proofs.Numbers.{numbers_set, number_at}
use Rattle.alert_board.proofs.Pen.publish.Goals as goal

pub invariant_of-self : goal.invariant_of-self
invariant_of-self c =
    let logs = c.self.inside.seat.me.0.logs in
    let found : c.index.result.now ≡ length (log_at logs c.args.place) = c.index.ensures ∙ get_or_default c.self.inside.numbers.items c.args.place c.index.result.now 0 (search (rules, length-map)) ∙ ap (λ ns. slice_index ns c.args.place) c.self.invariant.2 ∙ number_at logs c.args.place in (
      c.publish.ensures.table.1 ∙ c.self.invariant.0,
      ap (λ v. v.pen) c.publish.ensures.published ∙ c.self.invariant.1,
      ap (λ ns. slice_set ns c.args.place (c.index.result.now + 1)) c.self.invariant.2 ∙ numbers_set logs c.args.place (c.index.result.now + 1) c.args.flags (ap (λ n. n + 1) found) ∙ sym (ap (λ v. map length v.logs) c.publish.ensures.published),
      ap (λ v. length v.logs) c.publish.ensures.published ∙ length-set logs c.args.place (log_at logs c.args.place ++ c.args.flags ∷ []) ∙ c.self.invariant.3 ∙ sym (ap (λ (z : TableId). z.words) c.publish.ensures.table.0),
    )
