pub mod Alerts
pub mod Word
pub mod Known
pub mod Rule
