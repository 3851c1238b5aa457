use Rattle.pipe_model.proofs.Pipes.{is-flying}
use Rattle.pipe_model.proofs.pipe_laws.the_flight_is_what_has_not_completed.Goals as goal

pub returns : goal.returns
returns c = is-flying
