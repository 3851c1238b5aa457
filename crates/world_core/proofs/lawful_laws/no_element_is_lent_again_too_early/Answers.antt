use Rattle.world_core.proofs.LawfulPasts.{relent}
use Rattle.world_core.proofs.lawful_laws.no_element_is_lent_again_too_early.Goals as goal

pub returns : goal.returns
returns c = λ setup one payload e past n p x. relent setup one payload e past n p x
