pub mod Hands
pub mod Copying
pub mod CatchingUp
