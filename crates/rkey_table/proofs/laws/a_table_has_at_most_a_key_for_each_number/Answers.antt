use Rattle.rkey_table.proofs.Kept.{at_most}
use Rattle.rkey_table.proofs.laws.a_table_has_at_most_a_key_for_each_number.Goals as goal

pub returns : goal.returns
returns c = λ t table. at_most t.base t.places t.keys table.apart table.within
