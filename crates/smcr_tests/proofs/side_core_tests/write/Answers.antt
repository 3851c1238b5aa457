use Rattle.side_core.specs.FirstRow.{a_linked}
use Rattle.side_core.proofs.FirstConnection.{up_write, sound_write}
use Rattle.smcr_tests.proofs.side_core_tests.write.Goals as goal

pub write-reply-requires-clause-up : goal.write-reply-requires-clause-up
write-reply-requires-clause-up c = up_write c.args.a.now c.requires

pub write-reply-requires-clause-sound : goal.write-reply-requires-clause-sound
write-reply-requires-clause-sound c = sound_write c.args.a.now c.requires

pub returns : goal.returns
returns c = c.write-reply.ensures.side a_linked c.requires
