pub mod ByteLaws
pub mod DepthLaws
pub mod FitLaws
pub mod SampleLaws
mod NumberLaws
mod RawLaws
mod ValueLaws
pub mod BodyLemmas
