-- The channels of interleaved samples, and the best subframe of each.
use Rattle.std.specs.Prelude.{ℕ, ℤ, pos, ◌+◌, ◌*◌, ◌/◌, Bool, List, length, map, slice_index_or, unwrap_or}
use Rattle.std.specs.List.{range_with_len}
use Rattle.ff_flac_subframe.specs.rice.Least.{least}
use Rattle.ff_flac_subframe.specs.Subframe.{Spelling, subframe_bits, candidates}
use Rattle.ff_flac_subframe.specs.Subframe.Spelling.{verbatim}
use Rattle.ff_flac_subframe.specs.laws.Plan.{size}

-- the samples of one of n channels
unfoldable pub channel_of : ℕ → List ℤ → ℕ → List ℤ
channel_of n samples c = map (λ t. slice_index_or samples (t * n + c) (pos 0)) (range_with_len 0 (length samples / n))

unfoldable pub channels_in : ℕ → List ℤ → List (List ℤ)
channels_in n samples = map (channel_of n samples) (range_with_len 0 n)

-- the first of the shortest spellings
unfoldable pub best : ℕ → List ℤ → Spelling
best depth xs = unwrap_or (least (size depth xs) (candidates xs)) verbatim

unfoldable pub best_bits : ℕ → List ℤ → List Bool
best_bits depth xs = subframe_bits depth xs (best depth xs)
