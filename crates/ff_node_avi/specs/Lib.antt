pub mod Demuxing
pub mod Ported
pub mod Reading
pub mod laws
