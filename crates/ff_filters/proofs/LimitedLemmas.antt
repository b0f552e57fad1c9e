pub mod Opening
pub mod Ones
pub mod Manies
pub mod Segments
