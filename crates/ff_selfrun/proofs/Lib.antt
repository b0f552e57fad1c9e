pub mod Few
pub mod Own
mod GeneratedLemmas
