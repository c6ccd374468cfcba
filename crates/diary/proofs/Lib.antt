pub mod Places
pub mod Planned
pub mod Explaining
pub mod Accepting
pub mod Agendas
