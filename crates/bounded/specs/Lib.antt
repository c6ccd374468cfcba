pub mod Held
pub mod Climbing
