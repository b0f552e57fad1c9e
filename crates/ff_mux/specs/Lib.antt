pub mod Adler
pub mod FrameHash
pub mod HashTexts
pub mod CrcTexts
pub mod DigestTexts
pub mod FlacHead
pub mod writers
pub mod laws
