-- Where the pixels of a picture lie, and the picture whose pixels a function gives (yuv4mpeg(5), "Frame Format").
use Rattle.std.specs.Prelude.{ℕ, zero, suc, ◌+◌, ◌*◌, List, [], ◌++◌, map, take, drop, slice_index}
use Rattle.std.specs.List.{range_with_len}
use Rattle.ff_frame.specs.declared.video.Format.{Format}
use Rattle.ff_frame.specs.Video.{chroma_width, chroma_height}
use Rattle.ff_planes.specs.declared.component.Component.{Component}
use Rattle.ff_planes.specs.declared.component.Component.TheVariants.{Luma, Blue, Red}

-- the columns of a plane, and its rows; without colour Cb and Cr have none
abbrev pub columns : Format → ℕ → Component → ℕ
columns format width Luma = width
columns format width Blue = chroma_width format width
columns format width Red = chroma_width format width

abbrev pub rows : Format → ℕ → Component → ℕ
rows format height Luma = height
rows format height Blue = chroma_height format height
rows format height Red = chroma_height format height

-- how many pixels a plane has
abbrev pub area : Format → ℕ → ℕ → Component → ℕ
area format width height c = rows format height c * columns format width c

-- the bytes of a plane: Y comes first, then Cb, then Cr
abbrev pub plane : Format → ℕ → ℕ → List ℕ → Component → List ℕ
plane format width height planes Luma = take (area format width height Luma) planes
plane format width height planes Blue = take (area format width height Blue) (drop (area format width height Luma) planes)
plane format width height planes Red = drop (area format width height Blue) (drop (area format width height Luma) planes)

-- the pixel of a plane at a row and a column
abbrev pub sample : ℕ → List ℕ → ℕ → ℕ → ℕ
sample columns bytes row column = slice_index bytes (row * columns + column)

-- the pixel of a picture
abbrev pub pixel : Format → ℕ → ℕ → List ℕ → Component → ℕ → ℕ → ℕ
pixel format width height planes c row column = sample (columns format width c) (plane format width height planes c) row column

-- the bytes of a row of a plane
abbrev pub line : ℕ → List ℕ → ℕ → List ℕ
line columns bytes row = take columns (drop (row * columns) bytes)

-- so many rows, one below the other
abbrev pub lines : ℕ → (ℕ → List ℕ) → List ℕ
lines zero row = []
lines (suc n) row = lines n row ++ row n

-- a row of so many columns, and a plane of so many columns and rows, whose pixels a function gives
abbrev pub row_of : ℕ → (ℕ → ℕ) → List ℕ
row_of columns at = map at (range_with_len 0 columns)

abbrev pub plane_of : ℕ → ℕ → (ℕ → ℕ → ℕ) → List ℕ
plane_of columns rows at = lines rows (λ row. row_of columns (at row))

-- the picture whose pixel of a plane at a row and a column a function gives
abbrev pub picture_of : Format → ℕ → ℕ → (Component → ℕ → ℕ → ℕ) → List ℕ
picture_of format width height at =
    plane_of (columns format width Luma) (rows format height Luma) (at Luma)
    ++ (plane_of (columns format width Blue) (rows format height Blue) (at Blue)
    ++ plane_of (columns format width Red) (rows format height Red) (at Red))
