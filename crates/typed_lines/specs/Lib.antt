pub mod Typing
pub mod Commands
