pub mod Finds
pub mod Joins
pub mod Moving
pub mod Windows
pub mod Turns
pub mod Walks
