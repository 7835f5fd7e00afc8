pub mod Changing
pub mod Locals
