pub mod Examples
pub mod Left
pub mod Readings
