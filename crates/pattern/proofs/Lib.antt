pub mod Openings
pub mod Periods
pub mod Strides
pub mod Ahead
pub mod Moves
pub mod Bounds
