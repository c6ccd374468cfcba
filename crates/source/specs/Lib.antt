pub mod Days
pub mod Intervals
pub mod Ascents
pub mod Kept
pub mod Ticks
pub mod Walks
