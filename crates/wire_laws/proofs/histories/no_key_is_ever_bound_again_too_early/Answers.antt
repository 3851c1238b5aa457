use Rattle.wire_laws.proofs.FreedKeys.{bound-holds}
use Rattle.wire_laws.proofs.histories.no_key_is_ever_bound_again_too_early.Goals as goal

pub returns : goal.returns
returns c = bound-holds
