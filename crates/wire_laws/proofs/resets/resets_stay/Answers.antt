use Rattle.wire_laws.proofs.Causes.{kept-stays, stay-settled}
use Rattle.wire_laws.proofs.resets.resets_stay.Goals as goal

pub returns-clause-settled : goal.returns-clause-settled
returns-clause-settled c = λ setup payload e past m known s. stay-settled setup payload e past m known s

pub returns-clause-kept : goal.returns-clause-kept
returns-clause-kept c = λ setup payload e past m known x s cause k. kept-stays setup payload e past m known x s cause k
