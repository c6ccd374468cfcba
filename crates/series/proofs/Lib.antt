pub mod Orders
pub mod Fitting
