pub mod Causes
pub mod Laws
pub mod Parts
pub mod Report
pub mod Updating
pub mod UpdatingLaws
