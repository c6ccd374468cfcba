pub mod Least
pub mod Shown
pub mod Kinds
