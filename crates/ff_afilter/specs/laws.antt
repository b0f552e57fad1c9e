pub mod ChannelLaws
pub mod Ends
pub mod LastingLaws
pub mod TrimLaws
