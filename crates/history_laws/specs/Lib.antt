pub mod Items
pub mod Lists
pub mod Made
pub mod Offers
pub mod Posts
pub mod Tables
pub mod Wires
pub mod Words
