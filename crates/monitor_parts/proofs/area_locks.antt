pub mod Answering
pub mod Freeing
pub mod Holders
pub mod Indexing
