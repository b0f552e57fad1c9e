pub mod LinksLemmas
pub mod NetworkLemmas
