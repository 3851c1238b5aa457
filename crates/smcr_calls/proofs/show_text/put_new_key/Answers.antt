use Rattle.smcr_calls.proofs.Chains.{first_cut, second_cut, third_put}
use Rattle.smcr_calls.proofs.show_text.put_new_key.Goals as goal

pub returns-in_err-put_number_field-clause-wrote : goal.returns-in_err-put_number_field-clause-wrote
returns-in_err-put_number_field-clause-wrote g c =
    first_cut _ _ _ _ _ c.from_residual.result _ c.from_residual.ensures.0 c.in_err-put_number_field.ensures.wrote

pub returns-in_err-put_number_field-2-clause-wrote : goal.returns-in_err-put_number_field-2-clause-wrote
returns-in_err-put_number_field-2-clause-wrote g c =
    second_cut _ _ _ _ _ c.in_ok-put_number_field.ensures.wrote _ _ _ c.from_residual-in_err-put_number_field-2.result _ c.from_residual-in_err-put_number_field-2.ensures.0 c.in_err-put_number_field-2.ensures.wrote

pub returns-clause-wrote : goal.returns-clause-wrote
returns-clause-wrote g c =
    third_put _ _ _ _ _ c.in_ok-put_number_field.ensures.wrote _ _ _ c.in_ok-put_number_field-2.ensures.wrote _ _ _ _ c.put_number_field-3.ensures.wrote
