pub mod Flows
pub mod Limits
