pub mod Letters
pub mod Grammar
pub mod Sources
pub mod laws
