pub mod Cuts
pub mod Values
pub mod Answering
pub mod Numbering
pub mod Moments
pub mod Spellings
