pub mod Asked
pub mod Index
pub mod Inputs
pub mod Parts
pub mod SameLocksLaws
pub mod Signed
pub mod UnitPlaces
