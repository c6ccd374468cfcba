pub mod Octets
pub mod Values
pub mod Members
pub mod Order
pub mod Marks
pub mod Plans
