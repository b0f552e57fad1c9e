pub mod DemuxSteps
pub mod Limits
pub mod PieceSteps
pub mod PortedSteps
pub mod ReadSteps
