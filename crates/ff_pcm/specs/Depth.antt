-- Samples of other depths.
use Rattle.std.specs.Prelude.{ℕ, ◌-◌, ◌^◌, ◌*ℤ◌, nat_le, if◌then◌else◌, ℤ, pos, map}
use Rattle.std.specs.Int.Signed.{shr_z}
use Rattle.ff_frame.specs.Frame.{audio_frame}
use Rattle.ff_frame.specs.declared.audio.AFrame.{AFrame}

-- A sample of b bits as one of c bits: times 2^(c - b), or over 2^(b - c), rounded down.
abbrev pub shifted : ℕ → ℕ → ℤ → ℤ
shifted b c sample = if nat_le b c then sample *ℤ pos (2 ^ (c - b)) else shr_z sample (2 ^ (b - c))

-- the frame with each sample at another depth
abbrev pub at_depth : ℕ → AFrame → AFrame
at_depth c f = audio_frame f.pts f.rate c f.channels (map (shifted f.bits c) f.samples)
