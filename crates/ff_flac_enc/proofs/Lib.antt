pub mod Choice
pub mod HeadLemmas
pub mod Apart
mod Forms
mod Short
pub mod ReadsHead
pub mod ReadsFrame
pub mod Stereo
pub mod Spelled
pub mod Codes
mod TotalLemmas
mod GatherLemmas
mod GatherState
pub mod GatherLaws
