use Rattle.std.proofs.Common.{◌≡◌, ◌∙◌, ◌+◌, ◌%◌, ◌/◌, ◌<◌, sym, ap, arith}
use Rattle.smc_num.proofs.Rounds.{same_round-div, same_round-mod}
use Rattle.smc_num.proofs.Cursor.forward.Goals as goal

-- the bytes moved on stay in the round
pub returns-then-n-rest : goal.returns-then-n-rest
returns-then-n-rest c = λ place stands.
    let inside : place % c.args.size + c.args.n < c.args.size = omega (arith, ap (λ s. s.count) stands) in
    let wrap : c.args.self.wrap ≡ (place + c.args.n) / c.args.size % 65_536 = ap (λ s. s.wrap) stands ∙ sym (ap (λ q. q % 65_536) (same_round-div c.args.size place c.args.n inside)) in
    let count : c.args.self.count + c.args.n ≡ (place + c.args.n) % c.args.size = ap (λ s. s.count + c.args.n) stands ∙ sym (same_round-mod c.args.size place c.args.n inside) in
    λ i. record { wrap = wrap i; count = count i }
