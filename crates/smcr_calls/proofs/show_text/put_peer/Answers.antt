use Rattle.smcr_calls.specs.ShowText.{peer_text}
use Rattle.smcr_calls.proofs.Chains.{first_cut, second_cut, third_put}
use Rattle.smcr_calls.proofs.show_text.put_peer.Goals as goal

pub returns-in_err-put_hex_field-clause-wrote : goal.returns-in_err-put_hex_field-clause-wrote
unfolding peer_text
returns-in_err-put_hex_field-clause-wrote g c =
    first_cut _ _ _ _ _ c.from_residual.result _ c.from_residual.ensures.0 c.in_err-put_hex_field.ensures.wrote

pub returns-in_err-put_hex_field-2-clause-wrote : goal.returns-in_err-put_hex_field-2-clause-wrote
unfolding peer_text
returns-in_err-put_hex_field-2-clause-wrote g c =
    second_cut _ _ _ _ _ c.in_ok-put_hex_field.ensures.wrote _ _ _ c.from_residual-in_err-put_hex_field-2.result _ c.from_residual-in_err-put_hex_field-2.ensures.0 c.in_err-put_hex_field-2.ensures.wrote

pub returns-clause-wrote : goal.returns-clause-wrote
unfolding peer_text
returns-clause-wrote g c =
    third_put _ _ _ _ _ c.in_ok-put_hex_field.ensures.wrote _ _ _ c.in_ok-put_hex_field-2.ensures.wrote _ _ _ _ c.put_hex_field-3.ensures.wrote
