pub mod Periods
pub mod Picks
pub mod First
pub mod Asked
pub mod Openings
