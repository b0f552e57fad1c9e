-- What the code's values stand for.
use Rattle.std.specs.Prelude.{List, map, ℤ, Vec}
use Rattle.ff_flac_dec.specs.declared.stereo.Join.{Join}
use Rattle.ff_flac_dec.specs.declared.stereo.Join.TheVariants.{Less, More, MidLeft, MidRight}
use Rattle.ff_flac_dec.specs.Channels.{less, more, mid_left, mid_right}

abbrev pub joins : Join → ℤ → ℤ → ℤ
joins Less = less
joins More = more
joins MidLeft = mid_left
joins MidRight = mid_right

abbrev pub items_of : {Z : Type 0} → List (Vec ℤ Z) → List (List ℤ)
items_of vectors = map (λ v. v.items) vectors
