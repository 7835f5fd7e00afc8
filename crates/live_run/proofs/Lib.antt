pub mod SessionLaws
pub mod Errors
pub mod Acting
pub mod Asking
pub mod SoFar
