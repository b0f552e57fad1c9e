pub mod SingleLaws
