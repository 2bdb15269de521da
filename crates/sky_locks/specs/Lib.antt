pub mod Freed
pub mod Locks
