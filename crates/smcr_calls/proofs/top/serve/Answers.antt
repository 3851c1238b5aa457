use Rattle.std.proofs.Common.{List, ℕ, ap, subst, Err}
use Rattle.smcr_calls.specs.Answers.{Sends}
use Rattle.smcr_calls.specs.Top.{answer_to}
use Rattle.smcr_calls.proofs.Inputs.{serves, serves_long}
use Rattle.smcr_calls.proofs.top.serve.Goals as goal

pub returns-in-Ok-read_input-clause-told : goal.returns-in-Ok-read_input-clause-told
returns-in-Ok-read_input-clause-told g c =
    let sent = subst (λ (bytes : List ℕ). Sends c.send_answer.result (answer_to c.args.command bytes) (g.K.Sink.held c.args.sink.now) (g.K.Sink.held c.send_answer.new.sink)) c.deref.ensures.value c.send_answer.ensures.answer in
    serves _ c.args.command c.read_input.new.input.items _ _ _ c.in-Ok-read_input.ensures.all c.in-Ok-read_input.ensures.short sent

pub returns-clause-told : goal.returns-clause-told
returns-clause-told g c =
    let long = ap Err c.in-Err-TooLong.field-0-is in
    let taken = c.in-Err-TooLong.ensures.taken long in
    serves_long _ c.args.command c.read_input.new.input.items taken.0 _ _ _ taken.1 (c.in-Err-TooLong.ensures.long long) c.finish.ensures.finishes
