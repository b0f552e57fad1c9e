pub mod Bests
pub mod Inputs
