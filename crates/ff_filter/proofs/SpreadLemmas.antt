pub mod Configuring
pub mod OneRule
pub mod Putting
pub mod Spreading
