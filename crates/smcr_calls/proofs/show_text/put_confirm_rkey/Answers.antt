use Rattle.smcr_calls.proofs.Chains.{first_cut, second_cut, third_put}
use Rattle.smcr_calls.proofs.show_text.put_confirm_rkey.Goals as goal

pub returns-in_err-put_head-clause-wrote : goal.returns-in_err-put_head-clause-wrote
returns-in_err-put_head-clause-wrote g c =
    first_cut _ _ _ _ _ c.from_residual.result _ c.from_residual.ensures.0 c.in_err-put_head.ensures.wrote

pub returns-in_err-put_two_flags-clause-wrote : goal.returns-in_err-put_two_flags-clause-wrote
returns-in_err-put_two_flags-clause-wrote g c =
    second_cut _ _ _ _ _ c.in_ok-put_head.ensures.wrote _ _ _ c.from_residual-in_err-put_two_flags.result _ c.from_residual-in_err-put_two_flags.ensures.0 c.in_err-put_two_flags.ensures.wrote

pub returns-clause-wrote : goal.returns-clause-wrote
returns-clause-wrote g c =
    third_put _ _ _ _ _ c.in_ok-put_head.ensures.wrote _ _ _ c.in_ok-put_two_flags.ensures.wrote _ _ _ _ c.put_others.ensures.wrote
