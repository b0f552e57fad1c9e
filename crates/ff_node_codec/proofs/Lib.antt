pub mod CutSteps
pub mod LineSteps
pub mod SpreadSteps
