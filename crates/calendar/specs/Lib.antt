pub mod Years
pub mod Months
pub mod Dates
pub mod Weekdays
pub mod Starts
pub mod Laws
