pub mod FirstFrom
pub mod Least
pub mod Indexed
pub mod Marked
pub mod Allowed
pub mod Counts
pub mod FreePlaces
pub mod Arrived
