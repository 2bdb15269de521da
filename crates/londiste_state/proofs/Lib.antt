pub mod Ticks
pub mod StateTexts
pub mod TableLists
mod Worked
