pub mod Views
pub mod Seen
pub mod Batches
pub mod Numbers
pub mod Rotated
pub mod Traced
pub mod Retried
pub mod EventRule
