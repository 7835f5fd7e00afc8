pub mod Causes
pub mod Gathers
pub mod Loads
pub mod Marks
pub mod Openings
pub mod Reads
pub mod Slots
