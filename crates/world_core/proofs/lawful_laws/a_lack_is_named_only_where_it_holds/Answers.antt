use Rattle.world_core.proofs.LawfulPasts.{declined-lacks}
use Rattle.world_core.proofs.lawful_laws.a_lack_is_named_only_where_it_holds.Goals as goal

pub returns : goal.returns
returns c = declined-lacks
