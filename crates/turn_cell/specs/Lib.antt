pub mod Lists
pub mod Places
pub mod Models
pub mod Calls
pub mod Views
pub mod Keeping
pub mod Plays
