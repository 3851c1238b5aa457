use Rattle.std.proofs.Common.{◌≡◌, ◌≢◌, ◌%◌, ◌/◌, sym, ap, ◌∙◌, arith}
use Rattle.smc_num.proofs.Rounds.{one_wrap, next_wrap}
use Rattle.smc_num.proofs.Cursor.ahead_of.Goals as goal

-- both cursors are in one round
pub returns-then-self-other : goal.returns-then-self-other
returns-then-self-other c = λ from to starts ends forward near.
    let same : to / c.args.size % 65_536 ≡ from / c.args.size % 65_536 = sym (ap (λ s. s.wrap) ends) ∙ (c.if-self-other.true ∙ ap (λ s. s.wrap) starts) in
    omega (arith, one_wrap c.args.size from to forward near same, ap (λ s. s.count) starts, ap (λ s. s.count) ends)

-- this cursor is in the round after the other one's
pub returns-else-self-other : goal.returns-else-self-other
returns-else-self-other c = λ from to starts ends forward near.
    let other : to / c.args.size % 65_536 ≢ from / c.args.size % 65_536 = λ same. c.if-self-other.false (ap (λ s. s.wrap) ends ∙ (same ∙ sym (ap (λ s. s.wrap) starts))) in
    omega (arith, next_wrap c.args.size from to forward near other, ap (λ s. s.count) starts, ap (λ s. s.count) ends)
