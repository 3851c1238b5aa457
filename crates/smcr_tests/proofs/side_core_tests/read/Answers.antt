use Rattle.side_core.specs.FirstRow.{b_heard}
use Rattle.side_core.proofs.FirstConnection.{up_read, sound_read}
use Rattle.smcr_tests.proofs.side_core_tests.read.Goals as goal

pub read-reply-requires-clause-up : goal.read-reply-requires-clause-up
read-reply-requires-clause-up c = up_read c.args.b.now c.requires

pub read-reply-requires-clause-sound : goal.read-reply-requires-clause-sound
read-reply-requires-clause-sound c = sound_read c.args.b.now c.requires

pub returns : goal.returns
returns c = c.read-reply.ensures.side b_heard c.requires
