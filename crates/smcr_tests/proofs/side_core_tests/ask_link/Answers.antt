use Rattle.side_core.specs.FirstRow.{b_made}
use Rattle.side_core.proofs.FirstConnection.{may_ask, sound_ask}
use Rattle.smcr_tests.proofs.side_core_tests.ask_link.Goals as goal

pub take_clc-reply-requires-clause-may : goal.take_clc-reply-requires-clause-may
take_clc-reply-requires-clause-may c = may_ask c.args.b.now c.requires

pub take_clc-reply-requires-clause-sound : goal.take_clc-reply-requires-clause-sound
take_clc-reply-requires-clause-sound c = sound_ask c.args.b.now c.requires

pub returns : goal.returns
returns c = c.take_clc-reply.ensures.side b_made c.requires
