-- Audio of zeros, in frames of 1,024 sample frames.
use Rattle.std.specs.Prelude.{ℕ, zero, suc, ◌+◌, ◌-◌, ◌*◌, min, pos, List, [], ◌∷◌, replicate}
use Rattle.std.specs.Int.{div_ceil}
use Rattle.ff_frame.specs.declared.head.StreamHead.{StreamHead}
use Rattle.ff_frame.specs.declared.head.StreamHead.TheVariants.{Audio as AudioHead, Video as VideoHead}
use Rattle.ff_frame.specs.Frame.{audio_frame}
use Rattle.ff_stream.specs.declared.item.Item.{Item}
use Rattle.ff_stream.specs.declared.item.Item.TheVariants.{Audio}

-- the frame of so many sample frames of zeros from this time on
abbrev pub silent_frame : ℕ → ℕ → ℕ → ℕ → ℕ → Item
silent_frame rate bits channels start count = Audio (audio_frame (pos start) rate bits channels (replicate (count * channels) (pos 0)))

-- So many frames from this time on: each has 1,024 sample frames, or as many as are left up to the end.
abbrev pub silent_frames : ℕ → ℕ → ℕ → ℕ → ℕ → ℕ → List Item
silent_frames rate bits channels zero start end = []
silent_frames rate bits channels (suc more) start end =
    silent_frame rate bits channels start (min 1024 (end - start)) ∷ silent_frames rate bits channels more (start + 1024) end

-- zeros from one time to another in a stream of this head; none of video
abbrev pub filled : StreamHead → ℕ → ℕ → List Item
filled (AudioHead tb rate bits channels codec) start end = silent_frames rate bits channels (div_ceil (end - start) 1024) start end
filled (VideoHead tb format width height sar_num sar_den) start end = []
