pub mod Saying
pub mod Telling
pub mod build
