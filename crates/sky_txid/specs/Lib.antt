pub mod Ids
pub mod Snapshot
pub mod SnapshotText
