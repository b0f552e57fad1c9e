pub mod Dropping
pub mod Finding
pub mod GivenBack
pub mod Inputting
pub mod MarkLaws
pub mod Showing
pub mod Taken
pub mod StacksLemmas
