use Rattle.cdc_ring.proofs.Standing.{marks_are_postings}
use Rattle.cdc_ring.proofs.laws.a_mark_is_kept_for_each_posting.Goals as goal

pub returns : goal.returns
returns c = marks_are_postings
