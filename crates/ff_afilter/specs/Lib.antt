pub mod Channels
pub mod Trims
pub mod laws
