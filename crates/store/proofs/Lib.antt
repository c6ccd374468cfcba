pub mod Holdings
pub mod Spots
