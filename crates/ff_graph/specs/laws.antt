pub mod Examples
pub mod Pads
pub mod composed
