pub mod Splits
pub mod Members
