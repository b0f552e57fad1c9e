pub mod Flows
pub mod Sendings
