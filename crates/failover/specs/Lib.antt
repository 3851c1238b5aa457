pub mod Tables
pub mod Choices
