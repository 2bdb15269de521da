pub mod NamedLemmas
pub mod PlaceLemmas
