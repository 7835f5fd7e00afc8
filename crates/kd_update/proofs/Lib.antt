pub mod MoreSets
