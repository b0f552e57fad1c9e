pub mod JointTask
pub mod Lines
pub mod Shortened
pub mod laws
