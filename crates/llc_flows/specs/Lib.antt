pub mod Holds
pub mod Slots
pub mod Tables
pub mod Views
