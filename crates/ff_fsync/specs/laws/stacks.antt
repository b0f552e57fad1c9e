pub mod Examples
pub mod Limits
pub mod Stacked
pub mod StackedLaws
