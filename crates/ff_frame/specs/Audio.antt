-- Integer samples, and when the fields of an audio frame agree.
use Rattle.std.specs.Prelude.{◌≡◌, ◌≤◌, ◌<◌, ◌-◌, ◌*◌, ◌^◌, ℕ, ℤ, pos, negsuc, List, length, take, drop, All}

-- a signed sample of so many bits: from -2^(bits - 1) to 2^(bits - 1) - 1
abbrev pub FitsBits : ℕ → ℤ → Type 0
FitsBits bits (pos n) = n < 2 ^ (bits - 1)
FitsBits bits (negsuc n) = n < 2 ^ (bits - 1)

-- 1 to 8 channels, 4 to 32 bits, 1 to 65,535 sample frames, and each sample within the bits
pub record IsAudio (bits channels : ℕ) (samples : List ℤ) : Type 0 where
  pub some_bits : 4 ≤ bits
  pub few_bits : bits ≤ 32
  pub some_channels : 1 ≤ channels
  pub few_channels : channels ≤ 8
  pub sample_frames : ℕ
  pub interleaved : length samples ≡ sample_frames * channels
  pub some_sample_frames : 1 ≤ sample_frames
  pub few_sample_frames : sample_frames ≤ 65535
  pub within_bits : All (FitsBits bits) samples

-- the samples of so many sample frames from the one of this number on
abbrev pub kept_samples : ℕ → ℕ → ℕ → List ℤ → List ℤ
kept_samples channels first count samples = take (count * channels) (drop (first * channels) samples)
