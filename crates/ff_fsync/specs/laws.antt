pub mod Inputs
pub mod Rising
pub mod SideLaws
pub mod SyncBreaks
pub mod SyncLaws
pub mod SyncStreams
pub mod Syncs
pub mod stacks
