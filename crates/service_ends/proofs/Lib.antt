pub mod Ended
pub mod Fits
pub mod Rows
