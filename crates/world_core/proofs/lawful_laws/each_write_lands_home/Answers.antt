use Rattle.world_core.proofs.LawfulPasts.{home}
use Rattle.world_core.proofs.lawful_laws.each_write_lands_home.Goals as goal

pub returns : goal.returns
returns c = record { home = home }
