pub mod KnownLinks
pub mod Lightest
pub mod LiveLinks
pub mod Shown
