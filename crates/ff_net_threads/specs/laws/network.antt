pub mod Networks
pub mod Nodes
pub mod Runs
pub mod Scheduling
pub mod Tables
