pub mod Decoding
pub mod Encoding
pub mod Making
pub mod Spreads
pub mod codecs
pub mod laws
