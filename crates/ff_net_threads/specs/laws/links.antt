pub mod Ends
pub mod Nodes
pub mod Rooms
pub mod Runs
pub mod Settling
pub mod Turns
pub mod Workers
