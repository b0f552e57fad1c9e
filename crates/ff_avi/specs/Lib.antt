pub mod Chains
pub mod Data
pub mod Heads
pub mod Lanes
pub mod Lists
pub mod Sound
pub mod Streams
pub mod laws
