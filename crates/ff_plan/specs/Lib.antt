pub mod Decoded
pub mod Nodes
pub mod Numbers
pub mod Planned
pub mod Wires
pub mod laws
