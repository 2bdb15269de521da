pub mod Ran
pub mod Finding
