pub mod Grid
pub mod Flips
pub mod Parts
pub mod Stacks
pub mod laws
