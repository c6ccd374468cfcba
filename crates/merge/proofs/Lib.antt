pub mod Standing
pub mod OrderedLists
pub mod Merging
pub mod Naming
pub mod Written
