pub mod Numbered
pub mod Largest
pub mod Numbers
pub mod Letters
pub mod Runs
pub mod Spelled
pub mod Complete
pub mod Places
