pub mod Effects
pub mod Gives
pub mod Committing
