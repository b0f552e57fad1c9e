-- A frame of sound as the bytes of a FLAC frame (RFC 9639, section 9).
use Rattle.std.specs.Prelude.{◌≡◌, ℕ, ◌*◌, ◌/◌, ◌<◌, ◌≤◌, Some, Bool, List, ◌++◌, length}
use Rattle.ff_frame.specs.declared.audio.AFrame.{AFrame}
use Rattle.ff_frame.specs.Audio.{IsAudio}
use Rattle.ff_bits.specs.Bits.{bits}
use Rattle.ff_flac_frame.specs.declared.stream.FlacStream.{FlacStream}
use Rattle.ff_flac_frame.specs.Frame.{Frame, Begins}
use Rattle.ff_flac_dec.specs.Channels.{decoded}
use Rattle.ff_flac_subframe.specs.rice.Least.{least}
use Rattle.ff_flac_enc.specs.declared.head.Head.{Head}
use Rattle.ff_flac_enc.specs.Head.{opened, closed}
use Rattle.ff_flac_enc.specs.Layout.{Layout, layouts, layout_size, body}
use Rattle.ff_flac_enc.specs.Channels.{channels_in}

-- a block: sound of 1 to 4,096 sample frames, at most 24 bits and a rate below 2^20
pub record IsBlock (a : AFrame) : Type 0 where
  pub sound : IsAudio a.bits a.channels a.samples
  pub few_samples : length a.samples ≤ 4096 * a.channels
  pub few_bits : a.bits ≤ 24
  pub rate : a.rate < 1048576

abbrev pub stream_of : AFrame → FlacStream
stream_of a = record { rate = a.rate; bits = a.bits; channels = a.channels }

abbrev pub head_of : AFrame → ℕ → Head
head_of a number = record { stream = stream_of a; number = number; block = length a.samples / a.channels }

-- the candidates, in the order of ties
unfoldable pub candidates : AFrame → List Layout
candidates a = layouts a.bits (channels_in a.channels a.samples)

-- the bits of its subframes
abbrev pub subframe_bits_of : AFrame → Layout → ℕ
subframe_bits_of a y = layout_size a.bits (channels_in a.channels a.samples) y

-- a candidate's bits as a frame with this number
unfoldable pub spelled : AFrame → ℕ → Layout → List Bool
spelled a number y = closed (opened (head_of a number) y.form ++ body a.bits (channels_in a.channels a.samples) y)

-- the first of the shortest candidates
abbrev pub IsLeast : AFrame → ℕ → List ℕ → Type 0
IsLeast a number bytes = (y : Layout) × (least (subframe_bits_of a) (candidates a) ≡ Some y) × (bits bytes ≡ spelled a number y)

-- whatever follows them, these bytes begin with a frame of the grammar that has this number, is as long as they are, and
-- stands for this sound
abbrev pub Spells : List ℕ → AFrame → ℕ → Type 0
Spells bytes a number =
    (f : Frame) × (f.header.number ≡ number) × ((more : List ℕ) → Begins (stream_of a) (bytes ++ more) f (length bytes)) × (decoded (stream_of a) a.pts f ≡ a)
