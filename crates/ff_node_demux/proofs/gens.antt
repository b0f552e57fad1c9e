pub mod GenSteps
