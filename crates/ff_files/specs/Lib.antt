pub mod Names
pub mod There
pub mod Counts
pub mod Heads
pub mod Outputs
pub mod Works
pub mod Ends
pub mod laws
