pub mod Arrivals
pub mod Batches
pub mod Kept
pub mod Table
pub mod Told
