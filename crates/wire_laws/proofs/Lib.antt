pub mod Agreement
pub mod Causes
pub mod FreedKeys
pub mod Lawful
pub mod Memory
pub mod Whole
pub mod Writes
