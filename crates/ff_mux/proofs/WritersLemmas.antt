pub mod FinishedLaws
pub mod StreamLaws
