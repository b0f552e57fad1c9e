pub mod Answers
pub mod Ends
pub mod Flow
pub mod Sendings
pub mod Views
