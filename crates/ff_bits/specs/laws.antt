pub mod Carried
pub mod Pieces
pub mod Reads
pub mod Runs
pub mod Window
pub mod Writer
