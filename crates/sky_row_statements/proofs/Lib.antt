pub mod WaitLemmas
pub mod FreeLemmas
