-- The channels that a frame stands for (RFC 9639, section 4.2), and the frame of sound.
use Rattle.std.specs.Prelude.{ℕ, zero, suc, ◌+◌, ◌-◌, ◌%◌, ◌==◌, if◌then◌else◌, List, [], ◌∷◌, ◌++◌, map, slice_index_or, ℤ, pos, ◌+ℤ◌, ◌-ℤ◌, ◌*ℤ◌, unsigned_abs}
use Rattle.std.specs.Int.Signed.{shr_z}
use Rattle.ff_flac_frame.specs.declared.stream.FlacStream.{FlacStream}
use Rattle.ff_flac_frame.specs.Codes.{left_side, side_right, is_alone, depths}
use Rattle.ff_flac_frame.specs.Frame.{Part, Frame}
use Rattle.ff_frame.specs.declared.audio.AFrame.{AFrame}
use Rattle.ff_frame.specs.Frame.{audio_frame}
use Rattle.ff_flac_frame.specs.Prediction.{AllInDepth}
use Rattle.ff_flac_dec.specs.Values.{coded_samples, channel_samples}

-- a function of two channels, sample by sample
abbrev pub both : (ℤ → ℤ → ℤ) → List ℤ → List ℤ → List ℤ
both f [] ys = []
both f (x ∷ xs) [] = []
both f (x ∷ xs) (y ∷ ys) = f x y ∷ both f xs ys

-- left and side: right is left less side; side and right: left is side and right together
abbrev pub less : ℤ → ℤ → ℤ
less left side = left -ℤ side

abbrev pub more : ℤ → ℤ → ℤ
more side right = side +ℤ right

-- twice the mid sample, and the low bit of the side sample, which it lost
abbrev pub twice_mid : ℤ → ℤ → ℤ
twice_mid mid side = (pos 2 *ℤ mid) +ℤ pos (unsigned_abs side % 2)

abbrev pub mid_left : ℤ → ℤ → ℤ
mid_left mid side = shr_z (twice_mid mid side +ℤ side) 2

abbrev pub mid_right : ℤ → ℤ → ℤ
mid_right mid side = shr_z (twice_mid mid side -ℤ side) 2

-- left and right, of the two subframes under a channel code of left and side, side and right, or mid and side
abbrev pub left_right : ℕ → List ℤ → List ℤ → List (List ℤ)
left_right form xs ys =
    if form == left_side then xs ∷ both less xs ys ∷ []
    else (if form == side_right then both more xs ys ∷ ys ∷ []
    else both mid_left xs ys ∷ both mid_right xs ys ∷ [])

abbrev pub pair : ℕ → List (List ℤ) → List (List ℤ)
pair form (xs ∷ ys ∷ []) = left_right form xs ys
pair form channels = channels

abbrev pub separated : ℕ → List (List ℤ) → List (List ℤ)
separated form channels = if is_alone form then channels else pair form channels

-- the channels of a frame
unfoldable pub channels_of : Frame → List (List ℤ)
channels_of f = separated f.header.form (map (channel_samples f.header.block) f.parts)

-- one sample of each channel
abbrev pub sample_frame : List (List ℤ) → ℕ → List ℤ
sample_frame channels t = map (λ xs. slice_index_or xs t (pos 0)) channels

-- so many sample frames, from the one at t on
abbrev pub interleaved_from : List (List ℤ) → ℕ → ℕ → List ℤ
interleaved_from channels zero t = []
interleaved_from channels (suc n) t = sample_frame channels t ++ interleaved_from channels n (t + 1)

unfoldable pub interleaved : ℕ → List (List ℤ) → List ℤ
interleaved block channels = interleaved_from channels block 0

-- the frame of sound that a frame stands for
unfoldable pub decoded : FlacStream → ℤ → Frame → AFrame
decoded s pts f = audio_frame pts s.rate s.bits s.channels (interleaved f.header.block (channels_of f))

-- the samples of each subframe are within its depth, less its wasted bits
abbrev pub IsCoded : ℕ → ℕ → Part → Type 0
IsCoded block depth p = AllInDepth (depth - p.wasted) (coded_samples block p)

abbrev pub AllCoded : ℕ → List ℕ → List Part → Type 0
AllCoded block [] parts = Unit {0}
AllCoded block (d ∷ ds) [] = Unit {0}
AllCoded block (d ∷ ds) (p ∷ parts) = IsCoded block d p × AllCoded block ds parts

abbrev pub AllChannels : ℕ → List (List ℤ) → Type 0
AllChannels depth [] = Unit {0}
AllChannels depth (xs ∷ channels) = AllInDepth depth xs × AllChannels depth channels

-- each sample is within its subframe's depth and the stream's
pub record IsWithinDepths (s : FlacStream) (f : Frame) : Type 0 where
  pub coded : AllCoded f.header.block (depths f.header.form s.channels s.bits) f.parts
  pub stream : AllChannels s.bits (channels_of f)

-- the depths of two subframes: a side channel has one bit more
abbrev pub first_depth : ℕ → ℕ → ℕ
first_depth form depth = if form == side_right then depth + 1 else depth

abbrev pub second_depth : ℕ → ℕ → ℕ
second_depth form depth = if form == side_right then depth else depth + 1
