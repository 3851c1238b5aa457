use Rattle.wire_laws.proofs.Writes.{lands-home}
use Rattle.wire_laws.proofs.landings.each_write_that_lands_is_home.Goals as goal

pub returns : goal.returns
returns c = lands-home
