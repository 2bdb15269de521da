pub mod FeedLemmas
pub mod AsciiLemmas
pub mod GrowsLemmas
pub mod ReaderLemmas
