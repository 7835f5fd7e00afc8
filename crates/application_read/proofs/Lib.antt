pub mod Gatherings
pub mod DefinitionLayers
pub mod Layers
pub mod Named
pub mod Generations
