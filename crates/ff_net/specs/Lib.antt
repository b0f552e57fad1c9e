pub mod Nets
pub mod Pasts
pub mod Ways
pub mod laws
