pub mod Maps
pub mod Rules
pub mod Kept
pub mod laws
