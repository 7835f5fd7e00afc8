pub mod Turns
pub mod Taking
pub mod Starts
pub mod Commands
pub mod Keeping
