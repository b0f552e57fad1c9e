pub mod Answers
pub mod Either
pub mod FirstWords
pub mod Formats
pub mod laws
