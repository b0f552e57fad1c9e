pub mod Lists
pub mod Steps
pub mod Heads
pub mod Wholes
pub mod EndLaws
pub mod Creations
pub mod Free
pub mod AnswerLaws
mod Tracing
