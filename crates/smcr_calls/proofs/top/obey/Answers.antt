use Rattle.std.proofs.Common.{◌≡◌, List, ℕ, None, map}
use Rattle.smcr_words.specs.Commands.{command_of}
use Rattle.smcr_calls.proofs.Inputs.{tells_usage}
use Rattle.smcr_calls.proofs.top.obey.Goals as goal

pub returns-in-Err-Usage-clause-told : goal.returns-in-Err-Usage-clause-told
returns-in-Err-Usage-clause-told g c =
    let words : List (List ℕ) = map (λ w. w.now) c.args.words.now in
    let none : command_of words ≡ None = c.in-Err-Usage.ensures.err c.in-Err-Usage.field-0-is in
    tells_usage _ words _ _ _ none c.finish.ensures.finishes
