pub mod Appends
pub mod Text
