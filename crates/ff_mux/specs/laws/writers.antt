pub mod FlacWritten
pub mod Writers
