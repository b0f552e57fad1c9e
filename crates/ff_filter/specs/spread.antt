pub mod Splits
pub mod Spreads
