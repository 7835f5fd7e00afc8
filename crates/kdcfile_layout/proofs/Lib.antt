pub mod PartByPart
pub mod Several
pub mod OneByOne
pub mod Gates
pub mod Zeros
