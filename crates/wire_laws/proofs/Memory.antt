-- What stands in the RMBs: the bytes that have landed for an end stand in its element until it has read them.
mod Brought
mod Covered
mod Ends
mod Landings
mod NewBytes
mod Ring
mod Standing
mod Told
-- the bytes that have landed without a hole and are not read stand in the element; so does what was told; and that is what a read hands out
pub use Rattle.wire_laws.proofs.Memory.Told.{landed-stand, read-stand, told-stand}
