pub mod Clear
pub mod Labels
pub mod Names
pub mod Order
