-- Frames on their way from the cut that read them to a decoder.
use Rattle.std.specs.Prelude.{ℕ, length}
use Rattle.ff_flac_frame.specs.Frame.{Begins}
use Rattle.ff_flac_frame.specs.laws.Parts.{frame_of}
use Rattle.ff_flac_dec.specs.declared.hand_over.ReadFrame.{ReadFrame}

-- the frame is all of the bytes
abbrev pub IsWhole : ReadFrame → Type 0
IsWhole r = (number : ℕ) × Begins r.stream r.bytes (frame_of number r.frame) (length r.bytes)
