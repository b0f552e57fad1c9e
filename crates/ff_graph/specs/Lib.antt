pub mod Configured
pub mod Drawings
pub mod Faults
pub mod Meaning
pub mod Opens
pub mod Sources
pub mod composed
pub mod laws
