-- Each link that a side has not lost goes on carrying of each of its ends just what the end has under way there.
mod Agree
mod Ends
mod Feasible
mod Left
mod Next
mod OnLink
mod Owed
mod Posts
mod Step
mod Way
-- an end that is not up has sent nothing, over every list of items
pub use Rattle.wire_laws.proofs.Agreement.Ends.{idle-any}
-- the CDC message that is first on a link is the next one of one end
pub use Rattle.wire_laws.proofs.Agreement.Next.{first-is-next}
-- what an end has not completed, it has sent on its link
pub use Rattle.wire_laws.proofs.Agreement.OnLink.{on-own-step}
-- wires and pipes agree
pub use Rattle.wire_laws.proofs.Agreement.Owed.{agrees-plain}
-- the CDC message of a side under a token on a link in a post; and what the pipes post under a token is what its end is given to post
pub use Rattle.wire_laws.proofs.Agreement.Posts.{all-own, end-other, end-own, news-are, own-posted, pipe-of-end, under}
-- which of some messages go on a link
pub use Rattle.wire_laws.proofs.Agreement.Step.{all-on, on_it}
-- both halves of a connection before and after an entry, what it posts of an end on a link, and what the end then sends
pub use Rattle.wire_laws.proofs.Agreement.Ends.{Mid, Now, Then, idle-any, mid-counts, mid-sends, b-offered, draft-fabric, draft-items, news-own, none-sends, offered-now, one-sends, then-one, tokens-else}
-- the deeds of an entry
pub use Rattle.wire_laws.proofs.Agreement.Way.{alive-not-lost, deed-shape}
-- each part goes on being one that can be
pub use Rattle.wire_laws.proofs.Agreement.Feasible.{feasible-step}
-- a connection that was offered keeps its group
pub use Rattle.wire_laws.proofs.Agreement.Agree.{now-owed, same-group, up-offered}
-- all of it after every history: what is owed, that each end which is up is on a link that is live at its side or was lost there, and the agreement
pub use Rattle.wire_laws.proofs.Agreement.Owed.{Holds, holds}
-- on which link an end is that is up
pub use Rattle.wire_laws.proofs.Agreement.Left.{link-turn}
-- whose the first messages on a link are
pub use Rattle.wire_laws.proofs.Agreement.Step.{first-is-here, landed-is-here}
