pub mod Orders
mod Places
mod Marking
pub mod Aged
