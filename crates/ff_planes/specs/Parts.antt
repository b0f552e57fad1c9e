-- A part of a picture, and a picture on black.
use Rattle.std.specs.Prelude.{ℕ, ◌+◌, ◌-◌, ◌/◌, ◌≤◌, Bool, ◌&&◌, nat_lt, nat_le, if◌then◌else◌, List, ◌++◌, replicate}
use Rattle.ff_frame.specs.declared.video.Format.{Format}
use Rattle.ff_frame.specs.declared.video.Format.TheVariants.{C420, C422, C444, Mono}
use Rattle.ff_frame.specs.Video.{chroma_width, chroma_height}
use Rattle.ff_planes.specs.declared.rectangle.Rectangle.{Rectangle}
use Rattle.ff_planes.specs.declared.component.Component.{Component}
use Rattle.ff_planes.specs.declared.component.Component.TheVariants.{Luma, Blue, Red}
use Rattle.ff_planes.specs.Grid.{line, columns, rows, pixel, sample, plane_of, picture_of}

-- the columns of Cb and of Cr left of a column of Y, and their rows above a row of Y
abbrev pub chroma_left : Format → ℕ → ℕ
chroma_left C420 x = x / 2
chroma_left C422 x = x / 2
chroma_left C444 x = x
chroma_left Mono x = 0

abbrev pub chroma_top : Format → ℕ → ℕ
chroma_top C420 y = y / 2
chroma_top C422 y = y
chroma_top C444 y = y
chroma_top Mono y = 0

-- what a rectangle of Y is in Cb and in Cr
abbrev pub in_chroma : Format → Rectangle → Rectangle
in_chroma format r = record { x = chroma_left format r.x; y = chroma_top format r.y; width = chroma_width format r.width; height = chroma_height format r.height }

abbrev pub in_plane : Format → Rectangle → Component → Rectangle
in_plane format r Luma = r
in_plane format r Blue = in_chroma format r
in_plane format r Red = in_chroma format r

-- the rectangle lies in so many columns and rows
pub record IsPart (width height : ℕ) (r : Rectangle) : Type 0 where
  pub columns : r.x + r.width ≤ width
  pub rows : r.y + r.height ≤ height

-- the pixel at a row and a column lies in the rectangle
abbrev pub holds : Rectangle → ℕ → ℕ → Bool
holds r row column = (nat_le r.y row && nat_lt row (r.y + r.height)) && (nat_le r.x column && nat_lt column (r.x + r.width))

-- the part of a picture that a rectangle shows
unfoldable pub cropped : Format → ℕ → ℕ → Rectangle → List ℕ → List ℕ
cropped format width height r planes =
    picture_of format r.width r.height (λ c row column. pixel format width height planes c (row + (in_plane format r c).y) (column + (in_plane format r c).x))

-- black: 16 in Y, and 128 in Cb and in Cr, which is no colour (ITU-R BT.601, section 2.5.3)
abbrev pub black : Component → ℕ
black Luma = 16
black Blue = 128
black Red = 128

-- a picture as large as a rectangle, shown in it by a picture of so many columns and rows that is black elsewhere
unfoldable pub padded : Format → ℕ → ℕ → Rectangle → List ℕ → List ℕ
padded format width height r planes =
    picture_of format width height (λ c row column.
    if holds (in_plane format r c) row column
    then pixel format r.width r.height planes c (row - (in_plane format r c).y) (column - (in_plane format r c).x)
    else black c)

-- the same of one plane
abbrev pub part_of : ℕ → List ℕ → Rectangle → List ℕ
part_of columns bytes r = plane_of r.width r.height (λ row column. sample columns bytes (row + r.y) (column + r.x))

abbrev pub on_black : ℕ → ℕ → ℕ → Rectangle → List ℕ → List ℕ
on_black value columns rows r bytes =
    plane_of columns rows (λ row column. if holds r row column then sample r.width bytes (row - r.y) (column - r.x) else value)

-- a row of a plane with pixels of one value left and right of it
abbrev pub between_values : ℕ → ℕ → ℕ → ℕ → List ℕ → ℕ → List ℕ
between_values value left right columns bytes row = replicate left value ++ (line columns bytes row ++ replicate right value)
