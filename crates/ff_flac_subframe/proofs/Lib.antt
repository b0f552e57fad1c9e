pub mod Predict
pub mod Plans
pub mod ReadsSub
pub mod Restored
pub mod Outlooks
pub mod RiceLemmas
