pub mod Ready
pub mod Waiting
pub mod Picks
pub mod Search
