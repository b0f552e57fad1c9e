pub mod Merges
pub mod Queues
