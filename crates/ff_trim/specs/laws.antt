pub mod CountLaws
pub mod CutLaws
pub mod CuttingLaws
pub mod Frames
pub mod Rules
pub mod Taps
