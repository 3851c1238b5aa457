use Rattle.world_core.proofs.LawfulPasts.{lawful-past}
use Rattle.world_core.proofs.lawful_laws.a_played_history_is_lawful.Goals as goal

pub returns : goal.returns
returns c = λ setup one payload past n p heard h. lawful-past setup one payload past n p heard h
