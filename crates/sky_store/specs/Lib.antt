pub mod Gives
pub mod Waiters
pub mod Served
pub mod Copying
pub mod Applying
pub mod Idle
