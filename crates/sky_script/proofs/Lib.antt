pub mod WordLemmas
pub mod KindLemmas
pub mod ReadingLemmas
pub mod ListLemmas
pub mod TextLemmas
pub mod FormLemmas
pub mod SessionLemmas
