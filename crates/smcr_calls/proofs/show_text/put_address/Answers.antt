use Rattle.smcr_calls.specs.ShowText.{address_text}
use Rattle.smcr_calls.proofs.Chains.{second_cut}
use Rattle.smcr_calls.proofs.show_text.put_address.Goals as goal

pub returns-in_err-put_number_field-clause-wrote : goal.returns-in_err-put_number_field-clause-wrote
unfolding address_text
returns-in_err-put_number_field-clause-wrote g c =
    second_cut _ _ _ _ _ c.in_ok-put_number.ensures.wrote _ _ _ c.from_residual-in_err-put_number_field.result _ c.from_residual-in_err-put_number_field.ensures.0 c.in_err-put_number_field.ensures.wrote
