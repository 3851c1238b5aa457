use Rattle.rkey_table.proofs.laws.an_rmb_has_at_most_one_number_for_a_slot.Goals as goal

pub returns : goal.returns
returns c = λ t table. table.bound_apart
