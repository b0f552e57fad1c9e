pub mod orders
pub mod pads
pub mod labels
pub mod laws
