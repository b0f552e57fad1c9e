pub mod Joints
pub mod Moves
pub mod Outlasting
pub mod ShortLaws
pub mod ShortTask
pub mod StraightLaws
pub mod Straights
