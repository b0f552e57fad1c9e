use Rattle.std.specs.Prelude.{ℕ, ℤ, ◌<◌, ◌≤◌, List, length}
use Rattle.std.specs.List.{All}
use Rattle.ff_frame.specs.Audio.{FitsBits}

-- samples that can be written at a depth
pub record CanWrite (depth : ℕ) (xs : List ℤ) : Type 0 where
  pub some_samples : 0 < length xs
  pub len : length xs ≤ 4096
  pub positive : 0 < depth
  pub within : depth ≤ 25
  pub fits : All (FitsBits depth) xs
