pub mod Meant
pub mod Wires
