pub mod Halves
pub mod Copies
pub mod Run
pub mod Put
pub mod Source
pub mod Piece
