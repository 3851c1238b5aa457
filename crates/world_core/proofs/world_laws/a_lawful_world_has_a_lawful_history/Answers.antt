use Rattle.world_core.proofs.LawfulWorlds.{history_is_lawful, step_is_lawful}
use Rattle.world_core.proofs.world_laws.a_lawful_world_has_a_lawful_history.Goals as goal

pub returns : goal.returns
returns c = record {
  history = λ w l. history_is_lawful w l;
  step = λ w l actor event fits. step_is_lawful w l actor event fits;
}
