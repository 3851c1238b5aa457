use Rattle.std.proofs.Common.{◌≡◌, ap, sym, ◌∙◌, refl, length}
use Rattle.atomic_table.specs.Seated.{TableId}
use Rattle.alert_board.specs.Alerts.{later_of, news_at}
use Rattle.alert_board.proofs.Logs.{length-each_of, news_at-each_of}
use Rattle.alert_board.proofs.Look.join.Goals as goal

-- one board has one number of places
places : {y z : TableId} → y ≡ z → y.words ≡ z.words
places e = ap (λ (z : TableId). z.words) e

pub invariant_of-self : goal.invariant_of-self
invariant_of-self c =
    let view = c.join.ensures.table.1 in
    let same = places (ap (λ x. x.board) c.self.view_is ∙ c.requires.this ∙ sym c.requires.other ∙ sym (ap (λ x. x.board) c.other.view_is)) in
    let long = c.self.invariant.2 ∙ same ∙ sym c.other.invariant.2 in (
      ap (λ x. x.1) view ∙ c.self.invariant.0,
      ap (λ x. x.0.pen) view ∙ c.self.invariant.1,
      ap (λ x. length x.0.seen) view ∙ length-each_of later_of c.self.inside.seat.me.0.seen c.other.inside.seat.me.0.seen long ∙ c.self.invariant.2 ∙ sym (places c.join.ensures.table.0),
      ap (λ x. length x.0.loads) view ∙ c.self.invariant.3 ∙ sym (places c.join.ensures.table.0),
    )

pub returns-clause-seen : goal.returns-clause-seen
returns-clause-seen c p =
    let same = places (ap (λ x. x.board) c.self.view_is ∙ c.requires.this ∙ sym c.requires.other ∙ sym (ap (λ x. x.board) c.other.view_is)) in
    let long = c.self.invariant.2 ∙ same ∙ sym c.other.invariant.2 in
    ap (λ x. news_at x.0.seen p) c.join.ensures.table.1 ∙ news_at-each_of later_of c.self.inside.seat.me.0.seen c.other.inside.seat.me.0.seen p long refl
    ∙ (λ i. later_of (news_at (c.self.view_is i).seen p) (news_at (c.other.view_is i).seen p))
