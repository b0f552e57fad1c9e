pub mod Graphs
pub mod Limits
pub mod Mapping
pub mod Passing
pub mod Picking
pub mod Refusals
pub mod Rows
