use Rattle.conn_end.proofs.Owners.{an_await_is_told}
use Rattle.conn_end.proofs.laws.an_await_is_told_by_a_read.Goals as goal

pub returns : goal.returns
returns c = an_await_is_told
