pub mod Making
pub mod Numbering
pub mod Reading
pub mod Shapes
