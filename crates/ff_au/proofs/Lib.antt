pub mod FinishedLaws
pub mod WrittenLaws
