pub mod Exchanges
pub mod Plans
pub mod Widening
