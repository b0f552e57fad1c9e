pub mod Behind
pub mod Refusals
pub mod ComposedLemmas
