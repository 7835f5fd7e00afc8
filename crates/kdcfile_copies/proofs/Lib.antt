pub mod Sought
pub mod Told
pub mod NextCopies
pub mod FirstCopies
