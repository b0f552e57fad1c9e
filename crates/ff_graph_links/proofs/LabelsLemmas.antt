pub mod Faults
pub mod Orders
pub mod Own
pub mod Tabled
