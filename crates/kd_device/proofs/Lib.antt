mod Fronts
pub mod Grows
pub mod InUse
pub mod Kept
pub mod Named
pub mod Replay
pub mod Seen
