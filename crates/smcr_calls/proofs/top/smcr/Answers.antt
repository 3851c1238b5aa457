use Rattle.smcr_calls.proofs.Complete.{completes}
use Rattle.smcr_calls.proofs.LawfulRuns.{tells_history, tells_trace}
use Rattle.smcr_calls.proofs.top.smcr.Goals as goal

pub returns-clause-lawful : goal.returns-clause-lawful
returns-clause-lawful g c = tells_history _ _ _ _ _ c.obey.ensures.told

pub returns-clause-traced : goal.returns-clause-traced
returns-clause-traced g c = tells_trace _ _ _ _ _ c.obey.ensures.told

pub returns-clause-complete : goal.returns-clause-complete
returns-clause-complete g c command input is left good no_read no_write = completes _ command input _ _ _ _ c.obey.ensures.told c.obey.ensures.read c.obey.ensures.write is left good no_read no_write
