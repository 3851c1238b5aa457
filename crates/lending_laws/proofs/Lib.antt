pub mod Ends
pub mod Keys
pub mod Known
pub mod Lendings
