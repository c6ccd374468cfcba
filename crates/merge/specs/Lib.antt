pub mod Printed
pub mod Places
pub mod Cursors
