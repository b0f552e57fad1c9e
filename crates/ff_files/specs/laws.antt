pub mod Hosts
pub mod Inputs
pub mod Runs
pub mod Targets
