pub mod Cutters
pub mod Heads
pub mod Kept
pub mod Walks
