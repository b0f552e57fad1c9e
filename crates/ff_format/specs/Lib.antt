pub mod Formats
pub mod Layouts
pub mod Outputs
pub mod laws
