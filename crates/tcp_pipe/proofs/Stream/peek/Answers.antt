use Rattle.std.proofs.Common.{rules, ◌≡◌, ◌∙◌, ◌++◌, List, ℕ, min, length, take, drop, ap, subst}
use Rattle.tcp_pipe.proofs.Copies.{two_copies}
use Rattle.tcp_pipe.proofs.Stream.peek.Goals as goal

pub returns-clause-out : goal.returns-clause-out
returns-clause-out c =
    let back = c.as_slices.result.1.now in
    let tail : c.split_at_mut-head.result.1.now ≡ drop c.min-first.result c.args.out.now = search rules in
    let all : c.as_slices.result.0.now ++ back ≡ c.args.self.now.held = search rules in
    ap (λ (a : List ℕ). a ++ c.copy_front-second.new.out) c.copy_from_slice.ensures.after
    ∙ two_copies c.args.self.now.held c.as_slices.result.0.now back c.args.out.now c.copy_front-second.new.out c.min-first.result c.copy_front-second.result
    all (search rules) (subst (λ (t : List ℕ). c.copy_front-second.result ≡ min (length t) (length back)) tail c.copy_front-second.ensures.count)
    (subst (λ (t : List ℕ). c.copy_front-second.new.out ≡ take c.copy_front-second.result back ++ drop c.copy_front-second.result t) tail c.copy_front-second.ensures.out)
