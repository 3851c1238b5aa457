pub mod Arriving
pub mod Ends
pub mod Owners
pub mod Phases
pub mod Posting
pub mod Rows
pub mod Writing
