pub mod Commits
pub mod Frames
pub mod Shown
