pub mod Prediction
pub mod Codes
pub mod Frame
pub mod Restored
pub mod laws
