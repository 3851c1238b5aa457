use Rattle.pipe_model.proofs.Lawful.{told-named}
use Rattle.pipe_model.proofs.laws.a_lack_is_named_only_where_it_holds.Goals as goal

pub returns : goal.returns
returns c = told-named
