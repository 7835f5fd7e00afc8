pub mod Carriable
pub mod Committed
pub mod Errors
pub mod Opened
pub mod Updated
