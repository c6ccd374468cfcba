pub mod Among
pub mod Walking
