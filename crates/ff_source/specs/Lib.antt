pub mod Bases
pub mod ColorOptions
pub mod Colors
pub mod Numbered
pub mod SilenceOptions
pub mod Silences
pub mod Sources
pub mod laws
