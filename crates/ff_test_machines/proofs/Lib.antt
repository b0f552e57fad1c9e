mod JoinSteps
mod ListSteps
pub mod Networks
pub mod RelaySteps
pub mod Shapes
pub mod Stream
