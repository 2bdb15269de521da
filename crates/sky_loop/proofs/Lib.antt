pub mod RunningLemmas
pub mod EndLemmas
pub mod ParsedLemmas
