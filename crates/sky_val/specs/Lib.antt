pub mod Entries
pub mod Kept
pub mod Numbers
pub mod Intervals
pub mod Order
pub mod OrderLaws
pub mod Schemas
