pub mod Least
pub mod Rice
