pub mod AloneLaws
pub mod Alones
pub mod StandLaws
pub mod best
