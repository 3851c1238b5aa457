use Rattle.clc_wire.proofs.ReadsBack.{message_back}
use Rattle.clc_wire.proofs.SpelledLength.{message_length}
use Rattle.clc_wire.proofs.message.reads_back.Goals as goal

pub returns-clause-read : goal.returns-clause-read
returns-clause-read c = message_back

pub returns-clause-length : goal.returns-clause-length
returns-clause-length c = message_length
