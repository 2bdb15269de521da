pub mod Own
pub mod Steps
