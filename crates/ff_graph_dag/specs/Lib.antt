pub mod wiring
pub mod laws
