-- Mirrored pictures.
use Rattle.std.specs.Prelude.{ℕ, ◌-◌, List}
use Rattle.ff_frame.specs.declared.video.Format.{Format}
use Rattle.ff_planes.specs.Grid.{columns, rows, pixel, sample, plane_of, picture_of}

-- left and right change places: in each plane the last column comes first
unfoldable pub hflipped : Format → ℕ → ℕ → List ℕ → List ℕ
hflipped format width height planes =
    picture_of format width height (λ c row column. pixel format width height planes c row (columns format width c - 1 - column))

-- top and bottom change places: in each plane the last row comes first
unfoldable pub vflipped : Format → ℕ → ℕ → List ℕ → List ℕ
vflipped format width height planes =
    picture_of format width height (λ c row column. pixel format width height planes c (rows format height c - 1 - row) column)

-- one plane, mirrored so
abbrev pub mirrored : ℕ → ℕ → List ℕ → List ℕ
mirrored columns rows bytes = plane_of columns rows (λ row column. sample columns bytes row (columns - 1 - column))

abbrev pub turned_over : ℕ → ℕ → List ℕ → List ℕ
turned_over columns rows bytes = plane_of columns rows (λ row column. sample columns bytes (rows - 1 - row) column)
