-- The manager of a side: what may come to it, what each message and each step of the handshake makes of it.
mod Allowed
mod Carries
mod Confirming
mod Handing
mod Hearing
mod Judging
mod LinkConfirms
mod Linking
mod Managing
mod Newly
mod News
mod Steps
mod Takes
-- a token of the peer names the same socket in both
pub use Rattle.side_core.proofs.Managers.Allowed.{aimers_same}
-- what is told by the verdict on a message
pub use Rattle.side_core.proofs.Managers.Allowed.{tells}
-- that a message which spells what was sent may land at the end of a socket, which its token names
pub use Rattle.side_core.proofs.Managers.Carries.{Comes}
-- that a message confirms a link in first contact, with a reply or none
pub use Rattle.side_core.proofs.Managers.Carries.{Confirms}
-- that a message which spells what was sent is the oldest uncompleted one of the end of a socket, whose peer gave its token
pub use Rattle.side_core.proofs.Managers.Carries.{Goes}
-- that the counts of a plain end are small, and what it was told fits
pub use Rattle.side_core.proofs.Managers.Carries.{IsSoundHalf}
-- that the end of a socket, whose peer gave a token, keeps the bytes of a write
pub use Rattle.side_core.proofs.Managers.Carries.{Keeps}
-- a message that may complete at the plain manager completes in the manager
pub use Rattle.side_core.proofs.Managers.Carries.{completes_in}
-- it may land
pub use Rattle.side_core.proofs.Managers.Carries.{confirm_kept}
-- what it makes a manager do
pub use Rattle.side_core.proofs.Managers.Carries.{confirm_step}
-- that of the end in first contact
pub use Rattle.side_core.proofs.Managers.Carries.{first_sound_kept}
-- bytes that may leave the plain manager may leave the manager, from the same place
pub use Rattle.side_core.proofs.Managers.Carries.{goes_out, going_at}
-- a message that may land at the plain manager lands in the manager
pub use Rattle.side_core.proofs.Managers.Carries.{lands_in}
-- a link may be made
pub use Rattle.side_core.proofs.Managers.Carries.{make_kept}
-- so it may complete, or land
pub use Rattle.side_core.proofs.Managers.Carries.{may_complete, may_land}
-- an end is sound
pub use Rattle.side_core.proofs.Managers.Carries.{sound_kept}
-- the state of an end
pub use Rattle.side_core.proofs.Managers.Carries.{state_kept}
-- a CLC message may be taken
pub use Rattle.side_core.proofs.Managers.Carries.{take_kept}
-- a write may land
pub use Rattle.side_core.proofs.Managers.Carries.{write_kept}
-- for every plain manager
pub use Rattle.side_core.proofs.Managers.Confirming.{confirmed_all}
-- a side whose link was confirmed stands for the plain one after it
pub use Rattle.side_core.proofs.Managers.Confirming.{confirmed_kept}
-- the side works on with the link live
pub use Rattle.side_core.proofs.Managers.Confirming.{confirming_works}
-- its first connection may be established then
pub use Rattle.side_core.proofs.Managers.Confirming.{may_rise}
-- an answer to a read may hand its bytes out
pub use Rattle.side_core.proofs.Managers.Handing.{handable}
-- the server's connection that waits for the Confirm hears the offer
pub use Rattle.side_core.proofs.Managers.Hearing.{may_rise_heard}
-- a connection of later contact may be established at once
pub use Rattle.side_core.proofs.Managers.Hearing.{may_rise_new}
-- what is known of a connection that is established
pub use Rattle.side_core.proofs.Managers.Hearing.{rising}
-- and of one that has just started
pub use Rattle.side_core.proofs.Managers.Hearing.{started_facts}
-- the step may be carried out
pub use Rattle.side_core.proofs.Managers.Judging.{judged}
-- it never asks for a key
pub use Rattle.side_core.proofs.Managers.Judging.{never_asks}
-- the verdict is the plain manager's
pub use Rattle.side_core.proofs.Managers.Judging.{same_verdict}
-- and all fits then
pub use Rattle.side_core.proofs.Managers.Judging.{taken_kept}
-- the manager after it took a message
pub use Rattle.side_core.proofs.Managers.Judging.{taken_stands}
-- and the side works
pub use Rattle.side_core.proofs.Managers.Judging.{working}
-- and what it posts
pub use Rattle.side_core.proofs.Managers.Linking.{confirmed_posts}
-- the manager whose link a step has confirmed, before any end is established by it
pub use Rattle.side_core.proofs.Managers.Linking.{heard_by}
-- a link that is made leaves the live ones
pub use Rattle.side_core.proofs.Managers.Linking.{made_works}
-- the plain manager has the same handshakes and routes
pub use Rattle.side_core.proofs.Managers.Managing.{same_state}
-- an end that is up has a connection
pub use Rattle.side_core.proofs.Managers.Managing.{up_has}
-- that these are the parts of a side
pub use Rattle.side_core.proofs.Managers.Newly.{AreNew}
-- they are a new manager
pub use Rattle.side_core.proofs.Managers.Newly.{newly}
-- a new side stands for the new plain manager
pub use Rattle.side_core.proofs.Managers.Newly.{newly_kept}
-- and stand for the plain one
pub use Rattle.side_core.proofs.Managers.Newly.{newly_stands}
