pub mod Images
pub mod Keeping
pub mod KeepingLaws
pub mod Parts
pub mod Running
