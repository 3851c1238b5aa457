use Rattle.world_core.proofs.Own.{own-some}
use Rattle.world_core.proofs.one_link_laws.own_messages_are_those_under_the_token.Goals as goal

pub returns : goal.returns
returns c = own-some
