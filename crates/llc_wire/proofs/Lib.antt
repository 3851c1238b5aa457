pub mod Fields
pub mod KeyMessages
pub mod LinkMessages
