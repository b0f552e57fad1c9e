pub mod Packets
pub mod Cuts
