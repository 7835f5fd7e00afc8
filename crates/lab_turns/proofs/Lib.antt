pub mod Changed
pub mod Put
pub mod Restarting
pub mod Scripts
pub mod Trimmed
