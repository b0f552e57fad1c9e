-- How pictures are stacked, and when they fit (ffmpeg-filters, "hstack" and "vstack").
use Rattle.std.specs.Prelude.{ℕ, ◌+◌, ◌-◌, Bool, true, false, ◌&&◌, nat_le, nat_eq, if◌then◌else◌, max, min, pos, ◌+ℤ◌, List, [], ◌∷◌, length}
use Rattle.ff_frame.specs.declared.head.StreamHead.{StreamHead}
use Rattle.ff_frame.specs.declared.head.StreamHead.TheVariants.{Audio, Video}
use Rattle.ff_frame.specs.declared.video.Format.{Format}
use Rattle.ff_frame.specs.declared.video.Format.TheVariants.{C420, C422, C444, Mono}
use Rattle.ff_frame.specs.declared.video.VFrame.{VFrame}
use Rattle.ff_frame.specs.Video.{frame_size}
use Rattle.ff_frame.specs.Frame.{video_frame}
use Rattle.ff_stream.specs.Times.{ticks}
use Rattle.ff_planes.specs.declared.component.Component.{Component}
use Rattle.ff_planes.specs.declared.component.Component.TheVariants.{Luma, Blue}
use Rattle.ff_planes.specs.Grid.{columns, rows}
use Rattle.ff_planes.specs.Stacks.{hstacked, vstacked}
use Rattle.ff_fsync.specs.Synced.{each_of}
use Rattle.ff_fsync.specs.declared.stacks.shape.Direction.{Direction}
use Rattle.ff_fsync.specs.declared.stacks.shape.Direction.TheVariants.{Beside, Below}
use Rattle.ff_fsync.specs.declared.stacks.shape.Shape.{Shape}

abbrev pub same_format : Format → Format → Bool
same_format C420 C420 = true
same_format C420 C422 = false
same_format C420 C444 = false
same_format C420 Mono = false
same_format C422 C420 = false
same_format C422 C422 = true
same_format C422 C444 = false
same_format C422 Mono = false
same_format C444 C420 = false
same_format C444 C422 = false
same_format C444 C444 = true
same_format C444 Mono = false
same_format Mono C420 = false
same_format Mono C422 = false
same_format Mono C444 = false
same_format Mono Mono = true

-- the fields of a picture agree: 1 to 16,384 columns and rows, and all samples of the planes
abbrev pub agrees : VFrame → Bool
agrees f =
    ((nat_le 1 f.width && nat_le f.width 16384) && (nat_le 1 f.height && nat_le f.height 16384))
    && nat_eq (length f.planes) (frame_size f.format f.width f.height)

-- as high, or as wide, as the stack
abbrev pub is_across : Direction → Shape → VFrame → Bool
is_across Beside s f = nat_eq f.height s.height
is_across Below s f = nat_eq f.width s.width

abbrev pub is_like : Shape → VFrame → Bool
is_like s f = agrees f && (same_format f.format s.format && is_across s.direction s f)

-- the columns, or rows, of a plane of a picture
abbrev pub along : Direction → Format → Component → VFrame → ℕ
along Beside format c f = columns format f.width c
along Below format c f = rows format f.height c

abbrev pub sum_along : Direction → Format → Component → List VFrame → ℕ
sum_along d format c [] = 0
sum_along d format c (f ∷ fs) = along d format c f + sum_along d format c fs

-- the columns, or rows, of a plane of the stack
abbrev pub length_of : Direction → Shape → Component → ℕ
length_of Beside s c = columns s.format s.width c
length_of Below s c = rows s.format s.height c

-- so many of Y and of Cb fill it; Cr has as many as Cb
abbrev pub is_full : Shape → ℕ → ℕ → Bool
is_full s luma chroma = nat_eq luma (length_of s.direction s Luma) && nat_eq chroma (length_of s.direction s Blue)

abbrev pub fills_stack : Shape → List VFrame → Bool
fills_stack s fs = is_full s (sum_along s.direction s.format Luma fs) (sum_along s.direction s.format Blue fs)

-- each picture is of the stack's format and as high, or as wide, as it; and they fill it
abbrev pub fits_stack : Shape → List VFrame → Bool
fits_stack s fs = each_of (is_like s) fs && fills_stack s fs

-- the planes of the pictures side by side, or one below the other
abbrev pub planes_by : Direction → Shape → List VFrame → List ℕ
planes_by Beside s fs = hstacked s.format s.width s.height fs
planes_by Below s fs = vstacked s.format s.width s.height fs

-- Pictures that don't fit, which no valid streams have, show nothing.
abbrev pub stacked_planes : Shape → List VFrame → List ℕ
stacked_planes s fs = if fits_stack s fs then planes_by s.direction s fs else []

-- when a picture ends, in ticks
abbrev pub end_ticks : VFrame → ℕ
end_ticks f = ticks (f.pts +ℤ f.duration)

-- How long is shown at time t what the pictures, one of each input, make: up to the end of the first input's, and for one
-- unit at least. (A time has 63 bits; of a picture that starts by t it always fits.)
abbrev pub lasts : ℕ → List VFrame → ℕ
lasts t [] = 1
lasts t (f ∷ fs) = min (max (end_ticks f) (t + 1) - t) 9223372036854775807

-- the picture of this time, of one picture of each input
abbrev pub stacked : Shape → ℕ → List VFrame → VFrame
stacked s t fs = video_frame (pos t) (pos (lasts t fs)) s.format s.width s.height (stacked_planes s fs)

-- how pictures are stacked into those of a head
abbrev pub shape_of : Direction → StreamHead → Shape
shape_of d (Audio tb rate bits channels codec) = record { direction = d; format = Mono; width = 0; height = 0 }
shape_of d (Video tb format width height sar_num sar_den) = record { direction = d; format = format; width = width; height = height }
