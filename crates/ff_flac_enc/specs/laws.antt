pub mod Blocks
pub mod Choice
pub mod Cuts
pub mod Shape
pub mod Signal
