pub mod Bits
pub mod Integers
pub mod Number
pub mod Crc
pub mod Reading
pub mod NumberGrammar
pub mod laws
