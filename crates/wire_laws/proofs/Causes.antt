-- Why a connection is declined or reset.
mod Declines
mod Dropped
mod Early
mod Entries
mod Fallen
mod Fits
mod Groups
mod Landing
mod Late
mod Parts
mod Phases
mod Settled
mod Shown
mod Streams
mod Strikes
mod Struck
-- what is declined is declined for the lack that is named
pub use Rattle.wire_laws.proofs.Causes.Declines.{declined-lacking}
-- with an item the end at a side is reset only by its own abort, by the end of its group, or by a message that strikes it
pub use Rattle.wire_laws.proofs.Causes.Strikes.{strike}
-- an end that is up, has fallen back or was reset stays so, and keeps its cause
pub use Rattle.wire_laws.proofs.Causes.Settled.{kept-stays, stay-settled}
-- each end that is reset is so for a cause that the history shows
pub use Rattle.wire_laws.proofs.Causes.Shown.{causes-shown}
-- a CDC message that is dropped comes late
pub use Rattle.wire_laws.proofs.Causes.Late.{comes-late}
