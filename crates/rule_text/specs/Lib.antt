pub mod Words
pub mod Entries
pub mod Lists
pub mod Fields
pub mod Parts
pub mod Reading
