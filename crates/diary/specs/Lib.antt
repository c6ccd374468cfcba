pub mod Drafts
pub mod Entries
pub mod States
pub mod Rooms
