pub mod Answers
pub mod Areas
pub mod Calculation
pub mod Header
pub mod MessageParts
pub mod Ticks
