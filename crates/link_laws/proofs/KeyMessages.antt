-- The messages that tell or name keys: which of them an entry posts, where one that waits on a link comes from, what its taker learns of both key flows, and what becomes of a key flow.
mod OnWires
mod Posted
mod StepSays
-- what waits after an entry waited before it, or is posted with it
pub use Rattle.link_laws.proofs.KeyMessages.OnWires.{waited-or-posted}
-- it is what is under way
pub use Rattle.link_laws.proofs.KeyMessages.OnWires.{waiting-under}
-- a link on which a message waits, and which is not dead after an entry, was not dead before it
pub use Rattle.link_laws.proofs.KeyMessages.OnWires.{waited-alive}
-- what lands waited
pub use Rattle.link_laws.proofs.KeyMessages.OnWires.{landed-waited}
-- a message of a side's key flow fits that flow
pub use Rattle.link_laws.proofs.KeyMessages.OnWires.{waiting-fits}
-- what is in a list that was put together is in a part of it
pub use Rattle.link_laws.proofs.KeyMessages.OnWires.{among-append}
-- how a message that tells or names keys comes to be posted
pub use Rattle.link_laws.proofs.KeyMessages.Posted.{keys-posted}
-- what becomes of a side's key flow
pub use Rattle.link_laws.proofs.KeyMessages.Posted.{key-turn}
-- B adds a link as before, or has just begun
pub use Rattle.link_laws.proofs.KeyMessages.Posted.{adds-from}
-- what a step says, of the message that a side takes with an entry
pub use Rattle.link_laws.proofs.KeyMessages.StepSays.{takes-says}
