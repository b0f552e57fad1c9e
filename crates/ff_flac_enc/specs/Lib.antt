pub mod Layout
pub mod Head
pub mod Channels
pub mod Frame
pub mod Gathered
pub mod Totals
pub mod laws
