-- Decoded frames.
use Rattle.std.specs.Prelude.{ℕ, ℤ, List}
use Rattle.ff_frame.specs.declared.audio.AFrame.{AFrame}
use Rattle.ff_frame.specs.declared.video.Format.{Format}
use Rattle.ff_frame.specs.declared.video.VFrame.{VFrame}

-- the audio frame of these fields
abbrev pub audio_frame : ℤ → ℕ → ℕ → ℕ → List ℤ → AFrame
audio_frame pts rate bits channels samples = record { pts = pts; rate = rate; bits = bits; channels = channels; samples = samples }

-- the video frame of these fields
abbrev pub video_frame : ℤ → ℤ → Format → ℕ → ℕ → List ℕ → VFrame
video_frame pts duration format width height planes = record { pts = pts; duration = duration; format = format; width = width; height = height; planes = planes }
