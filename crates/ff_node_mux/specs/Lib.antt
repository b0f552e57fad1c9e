pub mod Muxing
pub mod StreamEvents
pub mod Telling
pub mod merge
pub mod laws
