pub mod After
pub mod Carrying
pub mod Linking
pub mod Meeting
pub mod Served
pub mod Tables
pub mod Turns
pub mod Senders
