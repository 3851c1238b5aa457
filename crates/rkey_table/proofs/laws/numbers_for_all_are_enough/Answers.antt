use Rattle.rkey_table.proofs.Kept.{each_has_one}
use Rattle.rkey_table.proofs.laws.numbers_for_all_are_enough.Goals as goal

pub returns : goal.returns
returns c = λ rmbs links rmb slot t table within enough here used none. each_has_one t.base t.places rmbs links rmb slot t.keys table.bound_apart within enough here used none
