pub mod Computing
pub mod RowsHold
