pub mod YearDays
pub mod MonthRows
pub mod MonthDays
pub mod Dating
pub mod DateLaws
pub mod NextDates
