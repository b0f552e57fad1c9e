pub mod Bytes
pub mod Depth
pub mod Frames
pub mod Samples
pub mod body
pub mod laws
