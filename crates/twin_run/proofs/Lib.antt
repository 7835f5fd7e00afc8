mod Saying
pub mod Resting
pub mod Parting
pub mod Decoding
pub mod Handing
pub mod Keepers
pub mod Lent
pub mod Ending
mod KeepingCalls
mod KeepingValues
