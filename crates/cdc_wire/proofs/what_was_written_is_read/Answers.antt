use Rattle.cdc_wire.proofs.Reading.{read_back, written_is_spelling}
use Rattle.cdc_wire.proofs.what_was_written_is_read.Goals as goal

pub returns-clause-written : goal.returns-clause-written
returns-clause-written c = written_is_spelling

pub returns-clause-read : goal.returns-clause-read
returns-clause-read c = read_back
