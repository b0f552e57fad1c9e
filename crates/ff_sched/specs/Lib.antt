pub mod Bits
pub mod Events
pub mod Histories
pub mod Printing
pub mod State
pub mod Unchoked
pub mod Ways
pub mod laws
