pub mod Firsts
pub mod Moving
pub mod Namings
pub mod Noting
pub mod Placing
