-- Every history that the definitions make is lawful, with the bytes that its answers hand out.
mod Histories
mod Steps
-- a made history is lawful, with any bytes that its answers ask for, and so with the bytes of the answers; and a lawful one is made
pub use Rattle.wire_laws.proofs.Lawful.Histories.{counted-lawful, lawful-made, made-lawful}
-- a made entry is a lawful step
pub use Rattle.wire_laws.proofs.Lawful.Steps.{lawful-step}
