pub mod labels
