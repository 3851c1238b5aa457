pub mod Apart
pub mod Held
