pub mod TransLemmas
