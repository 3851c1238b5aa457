pub mod Logs
pub mod Moves
pub mod Numbers
