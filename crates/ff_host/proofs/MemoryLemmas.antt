pub mod GivenFiles
