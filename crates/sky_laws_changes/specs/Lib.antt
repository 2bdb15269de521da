pub mod TableEvents
pub mod Listing
pub mod LawsOfChanges
