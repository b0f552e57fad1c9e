pub mod ChannelLemmas
pub mod JoinLemmas
pub mod SoundLemmas
pub mod FrameLemmas
pub mod HeadLemmas
pub mod NamedLaws
pub mod Shortest
pub mod UnitLaws
mod ExactLemmas
mod InfoLemmas
pub mod CutLaws
pub mod Longest
pub mod TrailLaws
