-- What an entry does to one link: which of its posts land, complete or are swallowed, at which places they stand, and whose they are. For any link, latest or not.
mod Carries
mod Own
mod Places
mod Ways
-- the CDC messages of a side under a token that an entry posts on a link
pub use Rattle.history_laws.proofs.Wires.Carries.{news_on}
-- what is returning is so many
pub use Rattle.history_laws.proofs.Wires.Carries.{returning-long}
-- nothing of the end lands or completes
pub use Rattle.history_laws.proofs.Wires.Carries.{carried-stays}
-- the end's next message is there
pub use Rattle.history_laws.proofs.Wires.Carries.{next-lands}
-- a post lands that is not the end's
pub use Rattle.history_laws.proofs.Wires.Carries.{carried-passes}
-- the end's next message lands
pub use Rattle.history_laws.proofs.Wires.Carries.{carried-lands}
-- a post is swallowed that is not the end's
pub use Rattle.history_laws.proofs.Wires.Carries.{swallowed-passes}
-- the end's next message is swallowed, where none has landed and not completed
pub use Rattle.history_laws.proofs.Wires.Carries.{carried-swallowed}
-- a post completes that is not the end's
pub use Rattle.history_laws.proofs.Wires.Carries.{carried-leaves}
-- the end's oldest message is there
pub use Rattle.history_laws.proofs.Wires.Carries.{next-completes}
-- it completes
pub use Rattle.history_laws.proofs.Wires.Carries.{carried-completes}
-- the end moves to this link, on which nothing of it was: what it sent before is left behind
pub use Rattle.history_laws.proofs.Wires.Carries.{carried-moved}
-- by the offer
pub use Rattle.history_laws.proofs.Wires.Own.{own-none}
-- a post is a side's CDC message under a token, or it is not
pub use Rattle.history_laws.proofs.Wires.Own.{IsOrNot, Is, IsNot}
-- the group of an offered connection
pub use Rattle.history_laws.proofs.Wires.Own.{group_by}
-- whether a post is a side's CDC message under a token, and that its landing is then the connection's own
pub use Rattle.history_laws.proofs.Wires.Own.{own-some, is-or-not}
-- each post that has not landed, and each that has not completed, stands at its place
pub use Rattle.history_laws.proofs.Wires.Places.{unlanded-stand}
-- the first of them
pub use Rattle.history_laws.proofs.Wires.Places.{first-stands}
-- posts that stand at their places do so in any part of the list; and so do those that have landed
pub use Rattle.history_laws.proofs.Wires.Places.{placed-append, placed-drop, placed-take, placed-filter, uncompleted-stand}
-- whether an item is no landing and no completion of the end at a side
pub use Rattle.history_laws.proofs.Wires.Ways.{apart}
-- an item that lands or completes a message of the end at a side
pub use Rattle.history_laws.proofs.Wires.Ways.{IsMessage}
-- a post of a side that waits on a link is swallowed
pub use Rattle.history_laws.proofs.Wires.Ways.{SwallowedNow}
-- what an entry does to one link and the messages of one side: nothing of the side moves; one moves, on another link; the next lands; the oldest landed one completes; the next is swallowed
pub use Rattle.history_laws.proofs.Wires.Ways.{Goes, Quietly, Elsewhere, LandsHere, CompletesHere, SwallowedHere}
-- whatever event is told what the definitions tell
pub use Rattle.history_laws.proofs.Wires.Ways.{goes}
-- small facts of the same proof
pub use Rattle.history_laws.proofs.Wires.Ways.{not-both, nil-is}
