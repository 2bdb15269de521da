pub mod ListedLemmas
pub mod LockLemmas
pub mod RingLemmas
