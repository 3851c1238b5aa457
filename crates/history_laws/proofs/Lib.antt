pub mod Basics
pub mod Items
pub mod Offers
pub mod Posts
pub mod Tables
pub mod Wires
