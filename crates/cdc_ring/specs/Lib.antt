pub mod Flights
pub mod Kept
pub mod Rings
