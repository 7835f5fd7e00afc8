pub mod Comparing
pub mod Digits
pub mod Writing
pub mod Fields
pub mod Results
pub mod Calls
pub mod Asking
