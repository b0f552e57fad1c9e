pub mod Held
pub mod Inlets
pub mod LimitLaws
pub mod Limits
pub mod Runs
pub mod Sound
pub mod StepperLaws
pub mod spread
