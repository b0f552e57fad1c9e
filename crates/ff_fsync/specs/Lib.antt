pub mod Events
pub mod Pictures
pub mod Ranges
pub mod Sides
pub mod Synced
pub mod stacks
pub mod laws
