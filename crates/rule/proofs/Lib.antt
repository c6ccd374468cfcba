pub mod Bounds
pub mod Ends
pub mod Firsts
pub mod Settling
pub mod Refusals
pub mod Remaking
pub mod Meanings
pub mod Weekdays
