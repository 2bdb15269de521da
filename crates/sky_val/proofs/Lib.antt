pub mod EntryLemmas
pub mod Orders
pub mod NumberLemmas
pub mod SchemaLemmas
pub mod SchemaLaws
mod WorkedIntervals
