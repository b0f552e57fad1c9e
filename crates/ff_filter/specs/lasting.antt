pub mod Lastings
