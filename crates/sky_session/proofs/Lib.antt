pub mod Steps
pub mod LockLemmas
pub mod FormLemmas
pub mod CommitLemmas
