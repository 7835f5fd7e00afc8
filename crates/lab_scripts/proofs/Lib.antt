pub mod Alike
pub mod Lines
pub mod Next
pub mod Printed
pub mod Sent
pub mod SoFar
pub mod Talks
