pub mod Pages
pub mod Lines
pub mod Summaries
