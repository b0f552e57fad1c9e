pub mod BodyLaws
pub mod CutLaws
pub mod CutState
pub mod SamplesBack
