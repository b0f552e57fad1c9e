pub mod Common
pub mod Digits
pub mod Duration
pub mod Fraction
pub mod Reading
pub mod Rescale
pub mod laws
