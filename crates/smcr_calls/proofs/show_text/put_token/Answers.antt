use Rattle.smcr_calls.proofs.Chains.{first_cut}
use Rattle.smcr_calls.proofs.show_text.put_token.Goals as goal

pub returns-in_err-put_number_field-clause-wrote : goal.returns-in_err-put_number_field-clause-wrote
returns-in_err-put_number_field-clause-wrote g c = first_cut _ _ _ _ _ c.from_residual.result _ c.from_residual.ensures.0 c.in_err-put_number_field.ensures.wrote
