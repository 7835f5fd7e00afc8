pub mod Making
pub mod Restarting
pub mod Commits
