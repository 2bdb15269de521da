pub mod Lists
pub mod Orders
pub mod Sorting
pub mod DueIndex
pub mod DueCounts
pub mod Entries
pub mod Taking
pub mod Indexed
pub mod OfSub
pub mod Renumbering
pub mod TakingDue
mod Worked
