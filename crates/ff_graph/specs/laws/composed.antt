pub mod Machines
pub mod Matters
pub mod Ready
