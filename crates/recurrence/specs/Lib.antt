pub mod Entries
pub mod Bounds
