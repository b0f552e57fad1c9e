pub mod Chains
pub mod Solved
