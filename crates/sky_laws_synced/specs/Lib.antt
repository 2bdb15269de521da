pub mod Tables
pub mod LawsOfChanges
pub mod LawsOfFollowing
pub mod LawsOfOwners
pub mod LawsOfProviders
pub mod LawsOfSynced
pub mod LawsOfSeen
pub mod LawsOfLeft
