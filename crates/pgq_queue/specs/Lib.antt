pub mod Views
pub mod Seen
pub mod Stored
pub mod Held
pub mod Looked
pub mod Changed
pub mod Made
