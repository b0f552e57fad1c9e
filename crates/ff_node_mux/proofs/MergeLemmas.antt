pub mod Giving
pub mod Placing
