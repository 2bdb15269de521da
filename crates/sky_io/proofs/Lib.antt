pub mod AppendsLemmas
