-- The bits of all partitions of one partition order under each parameter.
use Rattle.std.specs.Prelude.{ℕ, zero, suc, ◌+◌, min, List, [], ◌∷◌, map, Vec}
use Rattle.std.specs.List.{range_with_len, fold}
use lib.Lanes.{zip2}
use Rattle.ff_flac_subframe.specs.rice.Rice.{part_cost}

-- the bits of the values of each partition under one parameter
abbrev pub column : ℕ → List (List ℕ) → List ℕ
column k parts = map (part_cost 0 k) parts

-- under each of so many parameters from low on
unfoldable pub columns : ℕ → ℕ → List (List ℕ) → List (List ℕ)
columns low count parts = map (λ k. column k parts) (range_with_len low count)

-- the least in each place
unfoldable pub least_each : List (List ℕ) → List ℕ
least_each [] = []
least_each (xs ∷ others) = fold (zip2 min) xs others

-- the lowest value at low and so many numbers behind it
unfoldable pub lowest : (ℕ → ℕ) → ℕ → ℕ → ℕ
lowest f low zero = f low
lowest f low (suc more) = min (lowest f low more) (f (low + suc more))

abbrev pub items_of : {Z : Type 0} → List (Vec ℕ Z) → List (List ℕ)
items_of vectors = map (λ v. v.items) vectors
