pub mod KeysOf
pub mod Kept
