pub mod Hands
pub mod Databases
