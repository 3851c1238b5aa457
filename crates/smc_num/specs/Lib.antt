pub mod Keys
pub mod Links
pub mod Names
pub mod Numbers
pub mod Places
