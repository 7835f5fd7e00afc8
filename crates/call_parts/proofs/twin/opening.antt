pub mod Attached
mod Opened
