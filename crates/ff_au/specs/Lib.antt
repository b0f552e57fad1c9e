pub mod Codecs
pub mod Fields
pub mod Heads
pub mod Header
pub mod Layout
pub mod laws
