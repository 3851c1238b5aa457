pub mod Lendings
