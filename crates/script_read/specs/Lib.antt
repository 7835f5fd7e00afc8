pub mod Script
pub mod SameLaws
pub mod Reading
pub mod Commands
pub mod Spelling
pub mod Laws
pub mod Examples
