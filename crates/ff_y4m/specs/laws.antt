pub mod Units
pub mod Writers
pub mod Written
