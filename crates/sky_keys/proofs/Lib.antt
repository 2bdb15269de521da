pub mod VersionLemmas
pub mod EntryLemmas
pub mod WaitLemmas
mod WorkedVersions
