-- The key flow of a side and its test of each slot, through every event: at most one message of it is under way on links that are not dead, and it fits.
mod KeyLandings
mod KeyPosts
mod KeySteps
mod KeyTaken
mod KeyUnder
mod TestSteps
mod TestTaken
-- the step over all events
pub use Rattle.link_laws.proofs.Requests.KeySteps.{keys-go-on}
-- at first
pub use Rattle.link_laws.proofs.Requests.KeySteps.{keys-at-first}
-- a side and its peer after one of them has changed
pub use Rattle.link_laws.proofs.Requests.KeySteps.{peer-with}
-- the step over all events
pub use Rattle.link_laws.proofs.Requests.TestSteps.{test-goes-on}
-- at first
pub use Rattle.link_laws.proofs.Requests.TestSteps.{test-at-first}
