pub mod DayLemmas
pub mod Doubling
pub mod Keeping
pub mod MomentLemmas
pub mod Printing
