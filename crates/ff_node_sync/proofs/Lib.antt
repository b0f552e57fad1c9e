pub mod Breaking
pub mod Lawful
pub mod Moving
pub mod Straightening
