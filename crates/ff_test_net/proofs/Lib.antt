pub mod NetLemmas
pub mod NetworkLemmas
