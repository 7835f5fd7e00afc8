pub mod Lines
pub mod Statuses
pub mod Texts
pub mod Causes
