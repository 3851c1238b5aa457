-- What holds of a private pipe after every part that can be: counts, the flight, bytes without a hole, last snapshots.
mod Carried
mod Chains
mod Facts
mod FewSnapshots
mod Items
mod Joins
mod Lasting
mod Near
mod Parts
mod Quiet
mod Settled
mod Shuts
mod Sound
mod Spelling
mod ToldLast
mod Unswallowed
mod Whole
-- each message that was sent tells no more bytes than the element has
pub use Rattle.pipe_model.proofs.Pipes.Carried.{carries-few}
-- the next one from a place on, where there is one, and the rest
pub use Rattle.pipe_model.proofs.Pipes.Chains.{next-of}
-- the message that completes next is the oldest of the flight, but for validations
pub use Rattle.pipe_model.proofs.Pipes.Facts.{completes-well}
-- over every part that can be, for either side
pub use Rattle.pipe_model.proofs.Pipes.Facts.{is-counted}
-- the flight is what has not completed
pub use Rattle.pipe_model.proofs.Pipes.Facts.{is-flying}
-- marks of an end fit its phase
pub use Rattle.pipe_model.proofs.Pipes.Facts.{is-marked}
-- a snapshot that is next to land meets the conditions of its taker, and one that is next to complete is the oldest of the flight
pub use Rattle.pipe_model.proofs.Pipes.Facts.{lands-well}
-- a part of few snapshots is near
pub use Rattle.pipe_model.proofs.Pipes.FewSnapshots.{few-near}
-- that behind a last snapshot only last ones come
pub use Rattle.pipe_model.proofs.Pipes.Lasting.{Lasts}
-- nothing with bytes follows the last snapshot
pub use Rattle.pipe_model.proofs.Pipes.Lasting.{lasting}
-- near numbers that show no gap were taken
pub use Rattle.pipe_model.proofs.Pipes.Near.{no-gap}
-- and after the next item, before what becomes due with it is posted
pub use Rattle.pipe_model.proofs.Pipes.Parts.{both-after}
-- behind the last snapshot that its peer has taken, no message of an end carries bytes
pub use Rattle.pipe_model.proofs.Pipes.Quiet.{ends-with-last}
-- nothing is due after an item, whatever the part
pub use Rattle.pipe_model.proofs.Pipes.Settled.{nothing-due}
-- both halves of an and
pub use Rattle.pipe_model.proofs.Pipes.Shuts.{and-parts}
-- closed is told behind all bytes
pub use Rattle.pipe_model.proofs.Pipes.Shuts.{closes-behind-all}
-- an end that is over is shut
pub use Rattle.pipe_model.proofs.Pipes.Shuts.{ends-shut}
-- an end has read no more than it was told
pub use Rattle.pipe_model.proofs.Pipes.Shuts.{reads-told}
-- all but the number is read back, and the number too where it has not come round
pub use Rattle.pipe_model.proofs.Pipes.Spelling.{counts-back}
-- the snapshot that lands next is within the distances of its taker
pub use Rattle.pipe_model.proofs.Pipes.Spelling.{next-within}
-- a message gives back the number that it spells
pub use Rattle.pipe_model.proofs.Pipes.Spelling.{number-back}
-- and the whole snapshot, where that is near
pub use Rattle.pipe_model.proofs.Pipes.Spelling.{read-back}
-- where an end is over, both have told their last snapshot
pub use Rattle.pipe_model.proofs.Pipes.ToldLast.{over-has-told}
-- a part in which no message was swallowed is near
pub use Rattle.pipe_model.proofs.Pipes.Unswallowed.{unswallowed-near}
-- the bytes of the snapshot that lands next go on from those that have landed
pub use Rattle.pipe_model.proofs.Pipes.Whole.{next-joins}
-- all bytes that an end was told of have landed
pub use Rattle.pipe_model.proofs.Pipes.Whole.{told-landed}
