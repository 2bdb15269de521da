pub mod Versions
pub mod Waits
