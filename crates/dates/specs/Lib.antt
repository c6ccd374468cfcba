pub mod Climbs
pub mod Dates
pub mod Unions
pub mod Climbing
pub mod Merges
