-- Pictures of one colour, in 4:2:0.
use Rattle.std.specs.Prelude.{ℕ, ◌*◌, List, ◌++◌, replicate, pos, Option, Some, None, if◌then◌else◌, codes}
use Rattle.std.specs.Str.{bytes_eq}
use Rattle.ff_time.specs.Fraction.{Fraction}
use Rattle.ff_frame.specs.declared.head.StreamHead.{StreamHead}
use Rattle.ff_frame.specs.declared.head.StreamHead.TheVariants as head
use Rattle.ff_frame.specs.declared.video.Format.TheVariants.{C420}
use Rattle.ff_frame.specs.Frame.{video_frame}
use Rattle.ff_frame.specs.Video.{half}
use Rattle.ff_stream.specs.declared.item.Item.{Item}
use Rattle.ff_stream.specs.declared.item.Item.TheVariants.{Video}
use Rattle.ff_source.specs.declared.color.Color.{Color}
use Rattle.ff_source.specs.declared.color.Color.TheVariants.{Black, White}
use Rattle.ff_source.specs.Numbered.{numbered}

abbrev pub color_named : List ℕ → Option Color
color_named text = if bytes_eq text (codes "black") then Some Black else (if bytes_eq text (codes "white") then Some White else None)

-- each sample of Y
abbrev pub luma_of : Color → ℕ
luma_of Black = 16
luma_of White = 235

-- The planes of a picture: each sample of Y is the colour's. Those of Cb and of Cr are 128, a quarter as many, by rounded up halves.
abbrev pub color_planes : Color → ℕ → ℕ → List ℕ
color_planes color width height = replicate (width * height) (luma_of color) ++ replicate (2 * (half width * half height)) 128

-- the picture of number n starts at n, and lasts one tick
abbrev pub color_frame : Color → ℕ → ℕ → ℕ → Item
color_frame color width height n = Video (video_frame (pos n) (pos 1) C420 width height (color_planes color width height))

-- the pictures of numbers 0, 1, .. below a count
abbrev pub color_frames : Color → ℕ → ℕ → ℕ → List Item
color_frames color width height count = numbered (color_frame color width height) 0 count

-- the aspect of a sample is 1:1
abbrev pub color_head : Fraction → ℕ → ℕ → StreamHead
color_head base width height = head.Video base C420 width height 1 1
