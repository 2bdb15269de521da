pub mod StatusLemmas
pub mod WordsLemmas
