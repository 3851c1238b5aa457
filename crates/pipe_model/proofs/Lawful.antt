-- What a step must be to be lawful, what a decline names, and that a kept cause stays.
mod Declines
mod KeptCauses
mod LawfulSteps
-- what any event is told
pub use Rattle.pipe_model.proofs.Lawful.Declines.{told-named}
-- what it keeps stays kept with an entry, where its end stays settled
pub use Rattle.pipe_model.proofs.Lawful.KeptCauses.{cause-stays}
-- an item leaves kept what an end has kept
pub use Rattle.pipe_model.proofs.Lawful.KeptCauses.{pipe-keeps}
-- of a near part all is claimed
pub use Rattle.pipe_model.proofs.Lawful.LawfulSteps.{claimed-whole}
-- where a part is near, all that is told is claimed
pub use Rattle.pipe_model.proofs.Lawful.LawfulSteps.{near-whole}
-- each entry of a lawful history is a lawful step after those before it
pub use Rattle.pipe_model.proofs.Lawful.LawfulSteps.{step-of-lawful}
-- what the calls of a connection are told is a function of its terms and its part
pub use Rattle.pipe_model.proofs.Lawful.LawfulSteps.{told-by-part}
-- a call on an established end is told what its private pipe says
pub use Rattle.pipe_model.proofs.Lawful.LawfulSteps.{told-by-pipe}
