pub mod OwnLemmas
pub mod WrittenLemmas
