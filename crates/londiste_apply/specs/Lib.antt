pub mod Writing
pub mod Applying
