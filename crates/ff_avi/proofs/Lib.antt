pub mod TurnLaws
pub mod ChainLaws
pub mod CutLaws
pub mod ChosenLaws
pub mod ShapedLaws
