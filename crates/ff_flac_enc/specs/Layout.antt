-- How the channels of a frame are written (RFC 9639, sections 4.2 and 9.1.3): a channel code, and a spelling for each subframe.
use Rattle.std.specs.Prelude.{ℕ, ℤ, pos, negsuc, ◌+◌, ◌-◌, ◌/◌, ◌==◌, if◌then◌else◌, ◌+ℤ◌, ◌-ℤ◌, Bool, List, [], ◌∷◌, ◌++◌, length, map}
use Rattle.std.specs.List.{flat_map}
use Rattle.ff_flac_frame.specs.Codes.{left_side, side_right, mid_side, is_alone}
use Rattle.ff_flac_dec.specs.Channels.{both}
use Rattle.ff_flac_subframe.specs.Subframe.{Spelling, subframe_bits, candidates}

-- half of a number, rounded down
abbrev pub half : ℤ → ℤ
half (pos n) = pos (n / 2)
half (negsuc n) = negsuc (n / 2)

unfoldable pub mid_of : List ℤ → List ℤ → List ℤ
mid_of left right = both (λ x y. half (x +ℤ y)) left right

unfoldable pub side_of : List ℤ → List ℤ → List ℤ
side_of left right = both (λ x y. x -ℤ y) left right

-- what a subframe holds, and its depth
pub record Signal : Type 0 where
  pub depth : ℕ
  pub samples : List ℤ

abbrev pub signal : ℕ → List ℤ → Signal
signal depth samples = record { depth = depth; samples = samples }

-- two channels under a channel code by which they stand together: a side channel has one bit more
abbrev pub joint : ℕ → ℕ → List ℤ → List ℤ → List Signal
joint bits form left right =
    if form == left_side then signal bits left ∷ signal (bits + 1) (side_of left right) ∷ []
    else (if form == side_right then signal (bits + 1) (side_of left right) ∷ signal bits right ∷ []
    else signal bits (mid_of left right) ∷ signal (bits + 1) (side_of left right) ∷ [])

abbrev pub joined : ℕ → ℕ → List (List ℤ) → List Signal
joined bits form (left ∷ right ∷ []) = joint bits form left right
joined bits form channels = []

-- what the subframes hold under a channel code
unfoldable pub signals : ℕ → List (List ℤ) → ℕ → List Signal
signals bits channels form = if is_alone form then map (signal bits) channels else joined bits form channels

-- one spelling for each signal, the first signal's choice first
unfoldable pub products : List Signal → List (List Spelling)
products [] = [] ∷ []
products (x ∷ xs) = flat_map (λ s. map (λ rest. s ∷ rest) (products xs)) (candidates x.samples)

-- the bits of subframes
unfoldable pub bodies : List Signal → List Spelling → List Bool
bodies [] ss = []
bodies (x ∷ xs) [] = []
bodies (x ∷ xs) (s ∷ ss) = subframe_bits x.depth x.samples s ++ bodies xs ss

-- how channels are written
pub record Layout : Type 0 where
  pub form : ℕ
  pub spellings : List Spelling

-- the channel codes of so many channels
unfoldable pub forms : ℕ → List ℕ
forms channels = if channels == 2 then 1 ∷ left_side ∷ side_right ∷ mid_side ∷ [] else (channels - 1) ∷ []

unfoldable pub layouts_with : ℕ → List (List ℤ) → ℕ → List Layout
layouts_with bits channels form = map (λ ss. record { form = form; spellings = ss }) (products (signals bits channels form))

-- the candidates of these channels, in the order of ties
unfoldable pub layouts : ℕ → List (List ℤ) → List Layout
layouts bits channels = flat_map (layouts_with bits channels) (forms (length channels))

-- the bits of all subframes
unfoldable pub body : ℕ → List (List ℤ) → Layout → List Bool
body bits channels y = bodies (signals bits channels y.form) y.spellings

abbrev pub layout_size : ℕ → List (List ℤ) → Layout → ℕ
layout_size bits channels y = length (body bits channels y)
