use Rattle.side_core.proofs.FirstConnection.{up_write, sound_write}
use Rattle.smcr_tests.proofs.side_core_tests.end.Goals as goal

pub call-reply-requires-clause-up : goal.call-reply-requires-clause-up
call-reply-requires-clause-up c = up_write c.args.a.now c.requires

pub call-reply-requires-clause-sound : goal.call-reply-requires-clause-sound
call-reply-requires-clause-sound c = sound_write c.args.a.now c.requires
