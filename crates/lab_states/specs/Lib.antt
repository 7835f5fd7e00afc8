pub mod Outlines
pub mod OutlinesLaws
