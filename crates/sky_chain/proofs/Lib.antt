pub mod Lists
pub mod Writes
pub mod ChainLemmas
pub mod Inserting
pub mod Reading
pub mod Keeping
pub mod Pushing
pub mod Removing
pub mod Numbers
pub mod Apart
mod Worked
