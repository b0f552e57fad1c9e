pub mod FlacLaws
pub mod Hashers
pub mod Puts
pub mod writers
