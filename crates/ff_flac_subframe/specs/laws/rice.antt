pub mod Columns
pub mod Spans
pub mod Spells
