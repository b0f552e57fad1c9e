use Rattle.std.specs.Prelude.{ℕ, ℤ, pos, negsuc, ◌+◌, ◌*◌, ◌-ℤ◌, suc, nat_lt, if◌then◌else◌, Bool, List, [], ◌∷◌, ◌++◌, length, take, map, filter, zero, slice_index_or}
use Rattle.std.specs.Ordering.{int_eq}
use Rattle.std.specs.List.{flat_map, range_with_len, list_all}
use Rattle.ff_bits.specs.Bits.{bits_of}
use Rattle.ff_bits.specs.Integers.{unsigned}
use Rattle.ff_flac_subframe.specs.rice.Rice.{zigzagged, residual_bits, Coding, codings}

-- how a subframe is written
pub data Spelling : Type 0 where
  constant : Spelling
  fixed : (order : ℕ) (coding : Coding) → Spelling
  verbatim : Spelling

-- a sample in two's complement
unfoldable pub sample_bits : ℕ → ℤ → List Bool
sample_bits depth x = bits_of depth (unsigned depth x)

-- what follows the one before
abbrev pub steps_from : ℤ → List ℤ → List ℤ
steps_from x [] = []
steps_from x (y ∷ ys) = (y -ℤ x) ∷ steps_from y ys

abbrev pub steps : List ℤ → List ℤ
steps [] = []
steps (x ∷ xs) = steps_from x xs

-- the residuals of the fixed predictor of this order
unfoldable pub rest_of : ℕ → List ℤ → List ℤ
rest_of zero xs = xs
rest_of (suc order) xs = steps (rest_of order xs)

abbrev pub first_or_zero : List ℤ → ℤ
first_or_zero xs = slice_index_or xs 0 (pos 0)

unfoldable pub all_are : ℤ → List ℤ → Bool
all_are x xs = list_all (λ y. int_eq y x) xs

-- how far a number is from 0, or from -1
abbrev pub magnitude : ℤ → ℕ
magnitude (pos n) = n
magnitude (negsuc n) = n

-- the bits of a subframe
unfoldable pub subframe_bits : ℕ → List ℤ → Spelling → List Bool
subframe_bits depth xs constant = bits_of 8 0 ++ sample_bits depth (first_or_zero xs)
subframe_bits depth xs (fixed order coding) =
    bits_of 8 (16 + 2 * order) ++ flat_map (sample_bits depth) (take order xs) ++ residual_bits order coding (map zigzagged (rest_of order xs))
subframe_bits depth xs verbatim = bits_of 8 2 ++ flat_map (sample_bits depth) xs

-- the candidates, in the order of ties
unfoldable pub fixed_of : ℕ → ℕ → List Spelling
fixed_of n order = map (fixed order) (codings n order)

unfoldable pub predictors : ℕ → List ℕ
predictors n = filter (λ order. nat_lt order n) (range_with_len 0 5)

unfoldable pub candidates : List ℤ → List Spelling
candidates xs =
    (if all_are (first_or_zero xs) xs then constant ∷ [] else [])
    ++ flat_map (fixed_of (length xs)) (predictors (length xs))
    ++ verbatim ∷ []
