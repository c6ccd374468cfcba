pub mod Fielding
pub mod Keywords
pub mod Repeats
