-- What `-s` is: columns and rows.
use Rattle.std.specs.Prelude.{ℕ, ◌&&◌, if◌then◌else◌, Option, Some, None, List}
use Rattle.ff_frame.specs.Sizes.{sides_of, is_side}
use Rattle.ff_words.specs.declared.job.Size.{Size}

abbrev pub sized : Option (ℕ × ℕ) → Option Size
sized None = None
sized (Some sides) = if is_side sides.0 && is_side sides.1 then Some (record { width = sides.0; height = sides.1 }) else None

abbrev pub size_of : List ℕ → Option Size
size_of text = sized (sides_of text)
