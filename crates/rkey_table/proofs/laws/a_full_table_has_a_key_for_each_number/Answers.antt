use Rattle.rkey_table.proofs.Kept.{many_where_used}
use Rattle.rkey_table.proofs.laws.a_full_table_has_a_key_for_each_number.Goals as goal

pub returns : goal.returns
returns c = λ t used. many_where_used t.base t.places t.keys used
