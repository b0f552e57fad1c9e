-- Worked examples of two segments of video with audio: 25 frames of video and 8,000 sample frames a second.
use Rattle.std.specs.Prelude.{◌≡◌, ℕ, zero, suc, ℤ, pos, List, [], ◌∷◌, replicate, refl}
use Rattle.ff_frame.specs.Frame.{audio_frame}
use Rattle.ff_frame.specs.declared.video.VFrame.{VFrame}
use Rattle.ff_frame.specs.declared.video.Format.TheVariants.{Mono}
use Rattle.ff_frame.specs.declared.head.Codec.TheVariants.{PcmU8}
use Rattle.ff_frame.specs.declared.head.StreamHead.{StreamHead}
use Rattle.ff_frame.specs.declared.head.StreamHead.TheVariants.{Audio as AudioHead, Video as VideoHead}
use Rattle.ff_stream.specs.declared.item.Item.{Item}
use Rattle.ff_stream.specs.declared.item.Item.TheVariants.{Audio, Video}
use Rattle.ff_stream.specs.Stream.{whole}
use Rattle.ff_stream.specs.Ports.{nothing}
use Rattle.ff_filter.specs.Joins.{Flow, Ports}
use Rattle.ff_concat.specs.Concats.{concatenated}

abbrev pub video_head : StreamHead
video_head = VideoHead (record { num = 1; den = 25 }) Mono 1 1 0 0

abbrev pub audio_head : StreamHead
audio_head = AudioHead (record { num = 1; den = 8000 }) 8000 8 1 PcmU8

abbrev pub heads : List StreamHead
heads = video_head ∷ audio_head ∷ []

-- the picture from this time on, for one tick
abbrev pub picture_at : VFrame → ℕ → Item
picture_at f start = Video (record f { pts = pos start; duration = pos 1 })

-- so many sample frames of one sample value from this time on
abbrev pub sound_at : ℤ → ℕ → ℕ → Item
sound_at sample start count = Audio (audio_frame (pos start) 8000 8 1 (replicate count sample))

-- the whole stream of these items
abbrev pub all_of : List Item → Flow
all_of xs = record { items = xs; mark = whole }

-- two segments, each of the pictures f and g, and of so many sample frames
abbrev pub two_segments : VFrame → VFrame → ℤ → ℕ → Ports
two_segments f g sample count zero = all_of (picture_at f 0 ∷ picture_at g 1 ∷ [])
two_segments f g sample count (suc zero) = all_of (sound_at sample 0 count ∷ [])
two_segments f g sample count (suc (suc zero)) = all_of (picture_at f 0 ∷ picture_at g 1 ∷ [])
two_segments f g sample count (suc (suc (suc zero))) = all_of (sound_at sample 0 count ∷ [])
two_segments f g sample count (suc (suc (suc (suc p)))) = nothing

abbrev pub video_of : VFrame → VFrame → ℤ → ℕ → Flow
video_of f g sample count = concatenated heads video_head 0 2 (two_segments f g sample count)

abbrev pub audio_of : VFrame → VFrame → ℤ → ℕ → Flow
audio_of f g sample count = concatenated heads audio_head 1 2 (two_segments f g sample count)

pub short_video : (f g : VFrame) (sample : ℤ)
    → video_of f g sample 400 ≡ all_of (picture_at f 0 ∷ picture_at g 1 ∷ picture_at f 2 ∷ picture_at g 3 ∷ [])
short_video f g sample = refl

pub short_audio : (f g : VFrame) (sample : ℤ)
    → audio_of f g sample 400 ≡ all_of (sound_at sample 0 400 ∷ sound_at (pos 0) 400 240 ∷ sound_at sample 640 400 ∷ [])
short_audio f g sample = refl

pub long_video : (f g : VFrame) (sample : ℤ)
    → video_of f g sample 800 ≡ all_of (picture_at f 0 ∷ picture_at g 1 ∷ picture_at f 3 ∷ picture_at g 4 ∷ [])
long_video f g sample = refl

pub long_audio : (f g : VFrame) (sample : ℤ)
    → audio_of f g sample 800 ≡ all_of (sound_at sample 0 800 ∷ sound_at sample 800 800 ∷ [])
long_audio f g sample = refl
