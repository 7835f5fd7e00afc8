pub mod Staging
pub mod Committing
pub mod Fresh
