pub mod Lines
pub mod Refusals
pub mod RefusalsLaws
pub mod Verdicts
