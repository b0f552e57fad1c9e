-- Sizes and places that arguments give, on the grid of Cb and Cr.
use Rattle.std.specs.Prelude.{◌≡◌, ℕ, zero, suc, ◌*◌, ◌/◌, Option, Some, None, List}
use Rattle.ff_frame.specs.declared.video.Format.{Format}
use Rattle.ff_frame.specs.declared.video.Format.TheVariants.{C420, C422, C444, Mono}
use Rattle.ff_frame.specs.declared.head.StreamHead.{StreamHead}
use Rattle.ff_frame.specs.declared.head.StreamHead.TheVariants.{Audio, Video}
use Rattle.ff_time.specs.Digits.{number_of}
use Rattle.ff_vfilter.specs.declared.sizes.Sizes.{Sizes}

-- the sizes with this number as the width, the height, x or y
abbrev pub put : Sizes → ℕ → ℕ → Sizes
put s zero n = record s { width = Some n }
put s (suc zero) n = record s { height = Some n }
put s (suc (suc zero)) n = record s { x = Some n }
put s (suc (suc (suc option))) n = record s { y = Some n }

-- a value is a whole number of 1 to 5 digits
abbrev pub SetsSize : Sizes → ℕ → List ℕ → Sizes → Type 0
SetsSize s option value t = (n : ℕ) × (number_of 5 value ≡ Some n) × (t ≡ put s option n)

-- none is given
abbrev pub no_sizes : Sizes
no_sizes = record { width = None; height = None; x = None; y = None }

-- a number of columns or rows, rounded down to where Cb and Cr have whole ones
abbrev pub even : ℕ → ℕ
even n = n / 2 * 2

abbrev pub on_columns : Format → ℕ → ℕ
on_columns C420 n = even n
on_columns C422 n = even n
on_columns C444 n = n
on_columns Mono n = n

abbrev pub on_rows : Format → ℕ → ℕ
on_rows C420 n = even n
on_rows C422 n = n
on_rows C444 n = n
on_rows Mono n = n

-- a size that is given, on the grid; else the whole
abbrev pub size_of : (ℕ → ℕ) → Option ℕ → ℕ → ℕ
size_of grid None whole = whole
size_of grid (Some n) whole = grid n

-- a place that is given, else this one; on the grid
abbrev pub place_of : (ℕ → ℕ) → Option ℕ → ℕ → ℕ
place_of grid None place = grid place
place_of grid (Some n) place = grid n

-- the head with other columns and rows
abbrev pub sized : StreamHead → ℕ → ℕ → StreamHead
sized (Audio tb rate bits channels codec) width height = Audio tb rate bits channels codec
sized (Video tb format w h sar_num sar_den) width height = Video tb format width height sar_num sar_den
