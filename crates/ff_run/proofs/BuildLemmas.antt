pub mod Leads
pub mod Sinks
