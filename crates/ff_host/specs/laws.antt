pub mod Begun
pub mod Opens
pub mod Tally
pub mod memory
