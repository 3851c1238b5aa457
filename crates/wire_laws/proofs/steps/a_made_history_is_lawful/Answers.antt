use Rattle.wire_laws.proofs.Lawful.{counted-lawful, made-lawful}
use Rattle.wire_laws.proofs.steps.a_made_history_is_lawful.Goals as goal

pub returns-clause-any : goal.returns-clause-any
returns-clause-any c = λ setup payload past heard elements w known. made-lawful setup payload past heard elements w known

pub returns-clause-own : goal.returns-clause-own
returns-clause-own c = λ setup payload past elements m known. counted-lawful setup payload past elements m known
