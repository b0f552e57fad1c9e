pub mod Subframe
pub mod rice
pub mod laws
