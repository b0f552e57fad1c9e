pub mod ChannelSound
pub mod Cutting
pub mod Ending
pub mod Picking
pub mod TrimSound
pub mod Trimming
