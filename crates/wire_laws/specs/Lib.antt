pub mod Agreement
pub mod Heard
pub mod Late
pub mod Memory
pub mod Writes
