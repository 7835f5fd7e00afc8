pub mod Definition
pub mod Causes
pub mod DefinitionFaults
pub mod Handed
pub mod HandedLaws
pub mod Texts
pub mod Faults
pub mod Laws
