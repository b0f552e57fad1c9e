pub mod GenLaws
pub mod GenViews
pub mod Generators
