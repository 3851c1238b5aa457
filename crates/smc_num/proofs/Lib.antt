pub mod Examples
pub mod KeyLemmas
pub mod KeyPlaces
pub mod LinkLemmas
pub mod ListLemmas
pub mod Rounds
