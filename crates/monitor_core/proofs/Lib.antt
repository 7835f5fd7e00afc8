mod Entering
mod Shows
mod Signs
mod Starts
mod Ticks
mod Uses
pub mod Opening
pub mod Going
pub mod SoundStart
