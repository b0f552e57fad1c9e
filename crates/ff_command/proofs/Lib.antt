pub mod Names
pub mod Ends
pub mod Answers
pub mod Generated
pub mod Reports
pub mod Joining
