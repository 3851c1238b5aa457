pub mod Changes
pub mod Counts
pub mod Lowest
pub mod Once
