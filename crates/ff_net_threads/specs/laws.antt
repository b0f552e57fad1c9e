pub mod links
pub mod network
