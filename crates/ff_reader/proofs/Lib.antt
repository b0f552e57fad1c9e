pub mod AgreeLaws
pub mod AnswerLaws
pub mod WalkLaws
pub mod ReadingLaws
pub mod ReachLaws
pub mod GrammarLaws
