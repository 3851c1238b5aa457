-- The messages of a history can be written: how its numbers are bounded, from links and groups to each post.
mod Bounds
mod Tables
mod Links
mod Counts
mod Offers
mod Flows
mod Entries
mod Histories
-- of histories whose entries the definitions make, and of lawful ones
pub use Rattle.trace_laws.proofs.Written.Histories.{made-written, lawful-written}
