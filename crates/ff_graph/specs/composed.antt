pub mod Cuts
pub mod Pads
