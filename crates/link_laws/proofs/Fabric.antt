-- What an entry does to the fabric, once for all events: six kinds of change; which message makes it, and what stands newly after it.
mod Entries
mod NewLinks
mod OneActs
mod Steps
-- the fabric after the entry
pub use Rattle.link_laws.proofs.Fabric.Entries.{fabric-after}
-- after any entry
pub use Rattle.link_laws.proofs.Fabric.NewLinks.{moves}
-- an act is a landing from the other side, of a post that stands in the history
pub use Rattle.link_laws.proofs.Fabric.OneActs.{act-lands}
-- the peer of a side that takes a message learns nothing
pub use Rattle.link_laws.proofs.Fabric.OneActs.{one-learns}
-- one act has one step
pub use Rattle.link_laws.proofs.Fabric.OneActs.{one-step}
-- the step of an act is that of the flows
pub use Rattle.link_laws.proofs.Fabric.OneActs.{act-step}
-- what a step says of the key flow
pub use Rattle.link_laws.proofs.Fabric.OneActs.{taken-key}
-- what an act does to the fabric is all that the entry does to it
pub use Rattle.link_laws.proofs.Fabric.OneActs.{fabric-taken}
-- an answer that confirms changes no table
pub use Rattle.link_laws.proofs.Fabric.OneActs.{table-confirmed}
-- what is claimed of a step that B takes, its link flow being that and the message naming that slot
pub use Rattle.link_laws.proofs.Fabric.Steps.{StepsB}
-- B's step for any message
pub use Rattle.link_laws.proofs.Fabric.Steps.{steps-b}
-- whether a message is of the confirming of keys
pub use Rattle.link_laws.proofs.Fabric.Steps.{is_rkey}
