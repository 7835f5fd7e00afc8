pub mod EndsLaws
pub mod Faults
pub mod Finding
pub mod FitFaults
pub mod Gathering
pub mod Generating
pub mod Steps
