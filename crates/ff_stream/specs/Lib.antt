pub mod Items
pub mod Lanes
pub mod Ports
pub mod Stream
pub mod Times
pub mod Within
pub mod edges
pub mod laws
