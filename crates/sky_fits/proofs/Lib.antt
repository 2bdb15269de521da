pub mod ValueLemmas
pub mod SetLemmas
pub mod FaultLemmas
