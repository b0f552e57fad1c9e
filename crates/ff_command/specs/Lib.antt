pub mod Histories
pub mod Texts
pub mod Help
pub mod Command
pub mod Steps
