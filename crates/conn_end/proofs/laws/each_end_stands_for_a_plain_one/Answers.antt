use Rattle.conn_end.proofs.Owners.{with_zeros, stands_for_zeros}
use Rattle.conn_end.proofs.laws.each_end_stands_for_a_plain_one.Goals as goal

pub returns : goal.returns
returns c = λ k whole. (with_zeros k, stands_for_zeros k whole)
