pub mod Raw
pub mod body
