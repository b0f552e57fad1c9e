pub mod Accepting
pub mod Claims
pub mod Rooms
pub mod Runs
