pub mod Elements
pub mod Ends
pub mod FirstConnection
pub mod Managers
pub mod Sockets
