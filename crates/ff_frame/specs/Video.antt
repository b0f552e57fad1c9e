-- Pictures: how large their planes are, and when the fields of a video frame agree (yuv4mpeg(5), "Frame Format").
use Rattle.std.specs.Prelude.{◌≡◌, ◌≤◌, ◌+◌, ◌*◌, ◌/◌, ℕ, List, length}
use Rattle.ff_frame.specs.declared.video.Format.{Format}
use Rattle.ff_frame.specs.declared.video.Format.TheVariants.{C420, C422, C444, Mono}

-- half of the columns or rows, rounded up
abbrev pub half : ℕ → ℕ
half n = (n + 1) / 2

-- the columns of Cb and of Cr
abbrev pub chroma_width : Format → ℕ → ℕ
chroma_width C420 width = half width
chroma_width C422 width = half width
chroma_width C444 width = width
chroma_width Mono width = 0

-- the rows of Cb and of Cr
abbrev pub chroma_height : Format → ℕ → ℕ
chroma_height C420 height = half height
chroma_height C422 height = height
chroma_height C444 height = height
chroma_height Mono height = 0

-- the samples of Y, Cb and Cr, a byte each
abbrev pub frame_size : Format → ℕ → ℕ → ℕ
frame_size format width height = width * height + 2 * (chroma_width format width * chroma_height format height)

-- columns or rows of a picture
abbrev pub IsSide : ℕ → Type 0
IsSide n = (1 ≤ n) × (n ≤ 16384)

-- 1 to 16,384 columns and rows, and all samples of the planes
pub record IsVideo (format : Format) (width height : ℕ) (planes : List ℕ) : Type 0 where
  pub columns : IsSide width
  pub rows : IsSide height
  pub samples : length planes ≡ frame_size format width height
