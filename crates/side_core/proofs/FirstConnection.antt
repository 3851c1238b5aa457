-- What each call of the first worked row must find is so, of the plain managers by computation, and so of the sides.
mod FirstBytes
mod FirstRow
-- the bytes that leave the client are the two that it wrote, and land so
pub use Rattle.side_core.proofs.FirstConnection.FirstBytes.{bytes_are, bytes_landed}
-- what the completion of either message makes of its side
pub use Rattle.side_core.proofs.FirstConnection.FirstBytes.{completes_read, completes_written}
-- what the landing of either message makes of its side
pub use Rattle.side_core.proofs.FirstConnection.FirstBytes.{hears_read, hears_written}
-- each of the two messages may complete
pub use Rattle.side_core.proofs.FirstConnection.FirstBytes.{may_complete_read, may_complete_written}
-- the bytes may leave, and may land
pub use Rattle.side_core.proofs.FirstConnection.FirstBytes.{may_go, may_write}
-- each of the two messages may land
pub use Rattle.side_core.proofs.FirstConnection.FirstBytes.{may_hear_read, may_hear_written}
-- the ends that read and write are sound
pub use Rattle.side_core.proofs.FirstConnection.FirstBytes.{sound_read, sound_write}
-- and established
pub use Rattle.side_core.proofs.FirstConnection.FirstBytes.{up_read, up_write}
-- what the two messages of CONFIRM LINK make of their sides
pub use Rattle.side_core.proofs.FirstConnection.FirstRow.{answers, establishes}
-- each message of the handshake may be taken
pub use Rattle.side_core.proofs.FirstConnection.FirstRow.{may_answer, may_ask, may_confirm, may_establish}
-- the ends that it establishes are sound
pub use Rattle.side_core.proofs.FirstConnection.FirstRow.{sound_answer, sound_ask, sound_establish}
