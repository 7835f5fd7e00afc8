pub mod Held
pub mod Sameness
