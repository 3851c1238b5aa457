use Rattle.smcr_calls.proofs.Chains.{first_cut}
use Rattle.smcr_calls.proofs.show.put_clc_refusal_line.Goals as goal

pub returns-in_err-put_clc_fault-clause-wrote : goal.returns-in_err-put_clc_fault-clause-wrote
returns-in_err-put_clc_fault-clause-wrote g c =
    first_cut _ _ _ _ _ c.from_residual.result _ c.from_residual.ensures.0 c.in_err-put_clc_fault.ensures.wrote
