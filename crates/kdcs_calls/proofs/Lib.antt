pub mod AreaCalls
pub mod CallHolders
pub mod CallWaits
pub mod Holders
pub mod Locking
pub mod LaterCalls
