pub mod Arguments
pub mod JoinOptions
pub mod Joined
pub mod Tests
pub mod JoinView
pub mod laws
