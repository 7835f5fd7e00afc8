pub mod LawfulRuns
pub mod OpenedLaws
pub mod Stops
pub mod StopsLaws
pub mod SaidLaws
