pub mod Finding
pub mod Keeping
pub mod Keys
pub mod Pterms
pub mod Splitting
pub mod Using
