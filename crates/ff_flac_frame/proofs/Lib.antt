pub mod Loops
pub mod SomeLemmas
pub mod FrameSound
pub mod PredictionLemmas
pub mod RestoringLemmas
pub mod LinearLemmas
pub mod RestoredLemmas
pub mod Whole
pub mod FieldLemmas
pub mod RiceLemmas
pub mod ResidualLemmas
pub mod PassedLemmas
pub mod Seals
pub mod LawLemmas
mod TypeLemmas
