pub mod Counting
pub mod Storables
pub mod Restarting
pub mod Single
pub mod Acting
pub mod Stopping
pub mod Idle
