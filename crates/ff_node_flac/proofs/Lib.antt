pub mod Codes
pub mod Gathers
pub mod EncoderSteps
pub mod Coded
mod FilesRead
