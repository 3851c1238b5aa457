use Rattle.std.proofs.Common.{◌≤◌, sym, map, length, arith}
use Rattle.std.proofs.lemmas.List.{length-map}
use Rattle.smcr_words.proofs.Commands.{many-words}
use Rattle.smcr_words.proofs.command_of.Goals as goal

pub returns-in_default-2 : goal.returns-in_default-2
returns-in_default-2 c =
    let long : 3 ≤ length (map (λ w. w.now) c.args.words.now) = simp length-map (omega (arith, c.in_default.len_at_least)) in
    sym (many-words (map (λ w. w.now) c.args.words.now) long)
