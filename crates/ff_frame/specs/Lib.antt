pub mod Audio
pub mod Codecs
pub mod Frame
pub mod Heads
pub mod Packet
pub mod Sizes
pub mod Video
pub mod laws
