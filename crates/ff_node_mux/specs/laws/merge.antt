pub mod Alike
pub mod Fronting
pub mod Fronts
pub mod MergeLaws
pub mod Ordered
pub mod Orders
