use Rattle.world_core.proofs.LawfulWorlds.{fresh_is_lawful, pump_stays_lawful, step_stays_lawful}
use Rattle.world_core.proofs.world_laws.every_run_of_steps_is_lawful.Goals as goal

pub returns : goal.returns
returns c = record {
  fresh = λ setup payload room good. fresh_is_lawful setup payload room good;
  step = λ w l actor event fits. step_stays_lawful w l actor event fits;
  pump = λ w l actor. pump_stays_lawful w l actor;
}
