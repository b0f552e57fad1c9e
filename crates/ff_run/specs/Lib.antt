pub mod Meaning
pub mod build
pub mod laws
