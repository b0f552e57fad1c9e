pub mod DemuxSteps
pub mod ExitSteps
pub mod LimitSteps
pub mod ReadSteps
mod Sending
