pub mod Lines
pub mod TextMap
pub mod Written
