pub mod Placed
pub mod Undone
