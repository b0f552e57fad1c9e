pub mod Demuxing
pub mod Exiting
pub mod Sources
pub mod gens
pub mod laws
