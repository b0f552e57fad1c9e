pub mod BreakLaws
pub mod Breaks
pub mod LaneLaws
pub mod Order
pub mod WithinLaws
