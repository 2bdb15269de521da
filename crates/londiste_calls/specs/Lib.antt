pub mod Picks
pub mod Faults
