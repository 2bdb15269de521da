pub mod Retries
pub mod Kept
