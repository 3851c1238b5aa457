pub mod Commands
pub mod Dashes
pub mod Reading
