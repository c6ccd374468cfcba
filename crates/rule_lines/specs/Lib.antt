pub mod Writing
pub mod DayLines
