pub mod DemuxClaims
pub mod DemuxLaws
pub mod DemuxShapes
pub mod DemuxViews
pub mod Demuxers
pub mod Reading
pub mod SourceLaws
pub mod gens
