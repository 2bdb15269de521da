pub mod Order
pub mod OrderLaws
pub mod Sessions
pub mod Holders
pub mod Slots
pub mod Waiters
pub mod Table
