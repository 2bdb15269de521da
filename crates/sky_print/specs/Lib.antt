pub mod Calendar
pub mod Fields
pub mod Kept
pub mod Single
