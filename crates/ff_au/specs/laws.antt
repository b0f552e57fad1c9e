pub mod HeadLaws
pub mod Written
