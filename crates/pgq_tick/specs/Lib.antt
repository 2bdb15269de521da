pub mod Config
pub mod Ticks
pub mod Faults
