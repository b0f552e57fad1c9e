-- The frames of the worked examples.
use Rattle.std.specs.Prelude.{ℕ, ℤ, pos, List}
use Rattle.ff_frame.specs.declared.video.Format.TheVariants.{C420}
use Rattle.ff_frame.specs.Frame.{audio_frame, video_frame}
use Rattle.ff_stream.specs.declared.item.Item.{Item}
use Rattle.ff_stream.specs.declared.item.Item.TheVariants.{Audio, Video}

-- a picture that starts at n
abbrev pub shown_at : ℕ → ℕ → ℕ → List ℕ → Item
shown_at n width height planes = Video (video_frame (pos n) (pos 1) C420 width height planes)

-- sound of 8,000 sample frames a second that starts at n
abbrev pub heard_at : ℕ → ℕ → List ℤ → Item
heard_at n channels samples = Audio (audio_frame (pos n) 8000 16 channels samples)
