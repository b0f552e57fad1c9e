pub mod FlacFile
pub mod HashFile
pub mod CrcFile
pub mod DigestFiles
pub mod NullFile
pub mod RawFile
pub mod Unwritten
pub mod AnyWriters
