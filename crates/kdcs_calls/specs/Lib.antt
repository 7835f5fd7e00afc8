pub mod Calling
pub mod HoldingLaws
pub mod Parts
pub mod Stating
pub mod StatingLaws
