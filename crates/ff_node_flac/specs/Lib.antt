pub mod Packets
pub mod Coding
pub mod laws
