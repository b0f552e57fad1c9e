pub mod Lowest
pub mod Stuck
