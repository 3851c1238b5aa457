-- What is done to the end of a connection, what it leaves as it is, and what it posts.
mod Acting
mod Changing
mod Doings
mod Dues
mod Keeping
mod Standing
mod Workings
-- a connection that keeps its course stays filed
pub use Rattle.side_core.proofs.Ends.Acting.{filed_after}
-- whether an end may post is as it says
pub use Rattle.side_core.proofs.Ends.Acting.{may_post_is}
-- an end that may post, or may not, as told
pub use Rattle.side_core.proofs.Ends.Acting.{may_post_so}
-- its number stays
pub use Rattle.side_core.proofs.Ends.Acting.{number_after}
-- it stays set up
pub use Rattle.side_core.proofs.Ends.Acting.{set_after}
-- what is due is posted by the depth that it was made with
pub use Rattle.side_core.proofs.Ends.Acting.{settled}
-- what a change makes of some plain end
pub use Rattle.side_core.proofs.Ends.Changing.{IsMakeable, makeable}
-- a change leaves the link and the establishment of the end, for which what is kept stands
pub use Rattle.side_core.proofs.Ends.Changing.{makes_leave, makes_stands}
-- it may come to the connection of a socket, and what it makes of that
pub use Rattle.side_core.proofs.Ends.Changing.{call_makes, makes_at, may_come}
-- that a way is that of the connection of a socket
pub use Rattle.side_core.proofs.Ends.Doings.{IsWayOf}
-- the manager after something was done to the end of a socket
pub use Rattle.side_core.proofs.Ends.Doings.{acted}
-- what is posted when something is done to the end of a socket
pub use Rattle.side_core.proofs.Ends.Doings.{acted_posts}
-- the manager after a call
pub use Rattle.side_core.proofs.Ends.Changing.{called}
-- and when the socket calls
pub use Rattle.side_core.proofs.Ends.Changing.{called_posts}
-- a completion, the calls that end an end, a read, a landing and a write leave the link and the establishment of the end
pub use Rattle.side_core.proofs.Ends.Doings.{Leaves, completes_leave, ends_leave, reads_leave, takes_leave, writes_leave}
-- how many bytes an element has for both
pub use Rattle.side_core.proofs.Ends.Doings.{same_size}
-- what a write is told, and what finish, close and abort are
pub use Rattle.side_core.proofs.Ends.Doings.{end_told, write_told}
-- nor does one without a peer
pub use Rattle.side_core.proofs.Ends.Dues.{no_peer}
-- an end that gives no batch posts nothing
pub use Rattle.side_core.proofs.Ends.Dues.{nothing_due}
-- what the batch of an end posts is what is due
pub use Rattle.side_core.proofs.Ends.Dues.{posts_due}
-- the plain connection of a socket
pub use Rattle.side_core.proofs.Ends.Standing.{IsFound}
-- one has learnt of its peer
pub use Rattle.side_core.proofs.Ends.Standing.{aimed_stands}
-- one has begun
pub use Rattle.side_core.proofs.Ends.Standing.{begun_stands}
-- a connection is changed
pub use Rattle.side_core.proofs.Ends.Standing.{changed_stands}
-- a connection that is there has a plain one
pub use Rattle.side_core.proofs.Ends.Standing.{finds_plain}
-- its end
pub use Rattle.side_core.proofs.Ends.Standing.{half_is}
-- whether it may post
pub use Rattle.side_core.proofs.Ends.Standing.{is_way}
-- one has left
pub use Rattle.side_core.proofs.Ends.Standing.{left_stands}
-- on which way an end is then
pub use Rattle.side_core.proofs.Ends.Standing.{on_way}
-- what it posts
pub use Rattle.side_core.proofs.Ends.Standing.{posted}
-- one was established
pub use Rattle.side_core.proofs.Ends.Standing.{risen_stands}
-- something was done to the end of a socket, and what was due then was posted
pub use Rattle.side_core.proofs.Ends.Standing.{settles_at}
-- a socket with a connection is in range
pub use Rattle.side_core.proofs.Ends.Standing.{there_within}
-- a socket with a route is in range
pub use Rattle.side_core.proofs.Ends.Workings.{route_within}
-- and so is one with a route of some kind
pub use Rattle.side_core.proofs.Ends.Workings.{some_there}
-- a socket with a connection is a known one
pub use Rattle.side_core.proofs.Ends.Workings.{some_within}
-- a desk that changes no live link
pub use Rattle.side_core.proofs.Ends.Workings.{works_desk}
-- a connection learns what the peer offers
pub use Rattle.side_core.proofs.Ends.Workings.{works_hears}
-- a connection is established
pub use Rattle.side_core.proofs.Ends.Workings.{works_rises}
-- a new connection starts
pub use Rattle.side_core.proofs.Ends.Workings.{works_start}
