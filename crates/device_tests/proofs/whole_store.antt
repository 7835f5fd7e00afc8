pub mod Crash
pub mod Fresh
pub mod RecordsSoFar
pub mod StoreWriting
