pub mod Committing
pub mod FreshPool
pub mod FreshStored
pub mod Making
pub mod Planning
pub mod WholeCommitting
pub mod WholeMaking
