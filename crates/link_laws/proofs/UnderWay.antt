-- The messages of the link flow under way on links that are not dead, through every event; and with it the whole step of links and flows.
mod AnyKind
mod Asks
mod Carried
mod Entries
mod FlowSteps
mod Growing
mod Handshakes
mod Leaves
mod NeverAnswer
mod NothingLeft
mod OwnWires
mod Places
mod PostKinds
mod Stands
mod Step
mod StepPosts
mod StillPosts
mod WireStep
-- what an entry leaves of a kind under way, and what it posts of it
pub use Rattle.link_laws.proofs.UnderWay.AnyKind.{Wired}
-- the wires after it
pub use Rattle.link_laws.proofs.UnderWay.AnyKind.{wired-after}
-- nothing leaves a wire
pub use Rattle.link_laws.proofs.UnderWay.AnyKind.{wired-changed}
-- what is swallowed was on a cut link
pub use Rattle.link_laws.proofs.UnderWay.AnyKind.{wired-swallow}
-- of the kind nothing is under way but it
pub use Rattle.link_laws.proofs.UnderWay.AnyKind.{landed-under}
-- what was under way is gone, where it was that
pub use Rattle.link_laws.proofs.UnderWay.AnyKind.{wired-landed}
-- what lands of the kind is what was under way, and nothing else is
pub use Rattle.link_laws.proofs.UnderWay.Carried.{landed-is}
-- the wire after an entry: what stays of it, then the posts
pub use Rattle.link_laws.proofs.UnderWay.Carried.{carried-after}
-- an entry with the LLC and CLC posts that stand here, and any others
pub use Rattle.link_laws.proofs.UnderWay.Entries.{entry_of}
-- any entry
pub use Rattle.link_laws.proofs.UnderWay.FlowSteps.{any-goes}
-- the step over all events
pub use Rattle.link_laws.proofs.UnderWay.FlowSteps.{flows-go-on}
-- at first
pub use Rattle.link_laws.proofs.UnderWay.FlowSteps.{flows-at-first}
-- what stands after a side has lost a link stood before
pub use Rattle.link_laws.proofs.UnderWay.Growing.{loses-stands}
-- and after it has reported it
pub use Rattle.link_laws.proofs.UnderWay.Growing.{reports-stands}
-- what goes live stood
pub use Rattle.link_laws.proofs.UnderWay.Growing.{lives-stands}
-- B's request to confirm the first link
pub use Rattle.link_laws.proofs.UnderWay.Handshakes.{first_ask}
-- a side's request to confirm a key
pub use Rattle.link_laws.proofs.UnderWay.Handshakes.{key_ask}
-- the RMB that it asks about
pub use Rattle.link_laws.proofs.UnderWay.Handshakes.{key_rmb}
-- what is left of what was under way, where this post has landed
pub use Rattle.link_laws.proofs.UnderWay.Leaves.{left_after}
-- a link that is not dead stands at both sides
pub use Rattle.link_laws.proofs.UnderWay.NothingLeft.{both-stand}
-- what is under way fits
pub use Rattle.link_laws.proofs.UnderWay.NothingLeft.{under-fits}
-- a link of a slot on which none stands at a side is dead
pub use Rattle.link_laws.proofs.UnderWay.NothingLeft.{gone-there}
-- so is the link of a slot that may be reported
pub use Rattle.link_laws.proofs.UnderWay.NothingLeft.{gone-here}
-- what a delivery is about: the front of the latest link of its slot, which is not dead
pub use Rattle.link_laws.proofs.UnderWay.Places.{IsLanding}
-- what would land on a slot is at the front of its latest link
pub use Rattle.link_laws.proofs.UnderWay.Places.{landing-is}
-- an LLC message on a wire is its side's, on its link
pub use Rattle.link_laws.proofs.UnderWay.Places.{own-message}
-- none of these posts is an LLC message
pub use Rattle.link_laws.proofs.UnderWay.PostKinds.{HasNoLlc}
-- the posts of all connections
pub use Rattle.link_laws.proofs.UnderWay.PostKinds.{no-llc-connections}
-- there is none of a kind
pub use Rattle.link_laws.proofs.UnderWay.PostKinds.{no-llc-kind}
-- so one at most
pub use Rattle.link_laws.proofs.UnderWay.PostKinds.{no-llc-one}
-- the first of a kind in two lists
pub use Rattle.link_laws.proofs.UnderWay.PostKinds.{kind-append}
-- lists of which one has none of a kind
pub use Rattle.link_laws.proofs.UnderWay.PostKinds.{one-append}
-- a post alone
pub use Rattle.link_laws.proofs.UnderWay.PostKinds.{one-alone}
-- the first of the link flow, in both words
pub use Rattle.link_laws.proofs.UnderWay.PostKinds.{link-in}
-- what is known of a post that would land
pub use Rattle.link_laws.proofs.UnderWay.Stands.{LandsStanding}
-- what lands is at its place; an LLC message comes on a link that stands at both sides, and is what is under way, where it is of the link flow
pub use Rattle.link_laws.proofs.UnderWay.Stands.{landing-stands}
-- what an entry does to links and flows, to the messages of the link flow, and on which links it posts
pub use Rattle.link_laws.proofs.UnderWay.Step.{GoesOn}
-- links, flows and wires after such an entry
pub use Rattle.link_laws.proofs.UnderWay.Step.{goes-on}
-- only DELETE LINK makes a side report
pub use Rattle.link_laws.proofs.UnderWay.StepPosts.{IsNotGone}
-- so at most one post on links that are not dead is enough
pub use Rattle.link_laws.proofs.UnderWay.StillPosts.{posted-still}
-- a link that is not dead was not cut, and stands at both sides
pub use Rattle.link_laws.proofs.UnderWay.WireStep.{alive-is}
-- a link that stands was made
pub use Rattle.link_laws.proofs.UnderWay.WireStep.{stands-made}
-- what stands after a change of links stood before, or was not made yet; and no slot forgets how many links were made on it
pub use Rattle.link_laws.proofs.UnderWay.WireStep.{Grows}
-- a link that is not dead after an entry was not dead before it, or was not made
pub use Rattle.link_laws.proofs.UnderWay.WireStep.{comes-alive}
-- dead stays dead
pub use Rattle.link_laws.proofs.UnderWay.WireStep.{stays-dead}
-- what is not forgotten is on a link that is not dead
pub use Rattle.link_laws.proofs.UnderWay.WireStep.{living-alive}
