pub mod Feeds
pub mod Room
pub mod Reader
