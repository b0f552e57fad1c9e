pub mod network
pub mod laws
