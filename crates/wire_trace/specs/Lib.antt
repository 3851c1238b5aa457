pub mod Heads
pub mod Messages
pub mod Files
pub mod Traced
