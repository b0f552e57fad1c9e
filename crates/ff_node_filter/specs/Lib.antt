pub mod Limiting
pub mod Tasks
pub mod best
pub mod laws
