pub mod ChunkLaws
pub mod HeadLaws
pub mod Sound
pub mod SoundLaws
