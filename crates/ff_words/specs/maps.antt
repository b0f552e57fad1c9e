pub mod Grammar
pub mod Choice
pub mod Reading
