-- The channel codes of two channels (RFC 9639, section 9.1.3).
use Rattle.std.specs.Prelude.{ℕ, ℤ, ◌+◌, ◌<◌, ◌≤◌, List, [], ◌∷◌}
use Rattle.ff_flac_frame.specs.Codes.{left_side, side_right, mid_side}
use Rattle.ff_flac_enc.specs.Channels.{best}
use Rattle.ff_flac_enc.specs.Layout.{Layout, mid_of, side_of}
use Rattle.ff_flac_enc.specs.declared.shape.Shape.{Shape}
use Rattle.ff_flac_enc.specs.declared.shape.Shape.TheVariants.{Independent, LeftSide, SideRight, MidSide}

abbrev pub form_of : Shape → ℕ
form_of Independent = 1
form_of LeftSide = left_side
form_of SideRight = side_right
form_of MidSide = mid_side

-- the depth and the samples of a form's first signal, by those of left, mid and side
abbrev pub first_depth : ℕ → Shape → ℕ
first_depth bits Independent = bits
first_depth bits LeftSide = bits
first_depth bits SideRight = bits + 1
first_depth bits MidSide = bits

abbrev pub first_samples : List ℤ → List ℤ → List ℤ → Shape → List ℤ
first_samples l m s Independent = l
first_samples l m s LeftSide = l
first_samples l m s SideRight = s
first_samples l m s MidSide = m

-- and those of its second signal, by those of right and side
abbrev pub second_depth : ℕ → Shape → ℕ
second_depth bits Independent = bits
second_depth bits LeftSide = bits + 1
second_depth bits SideRight = bits
second_depth bits MidSide = bits + 1

abbrev pub second_samples : List ℤ → List ℤ → Shape → List ℤ
second_samples r s Independent = r
second_samples r s LeftSide = s
second_samples r s SideRight = r
second_samples r s MidSide = s

-- this form has the fewest bits, by the bits of left, right, mid and side, and is the first of equals
abbrev pub Chooses : ℕ → ℕ → ℕ → ℕ → Shape → Type 0
Chooses l r m s Independent = (l + r ≤ l + s) × (l + r ≤ s + r) × (l + r ≤ m + s)
Chooses l r m s LeftSide = (l + s < l + r) × (l + s ≤ s + r) × (l + s ≤ m + s)
Chooses l r m s SideRight = (s + r < l + r) × (s + r < l + s) × (s + r ≤ m + s)
Chooses l r m s MidSide = (m + s < l + r) × (m + s < l + s) × (m + s < s + r)

-- the best layout of two channels in this form
abbrev pub pair_layout : ℕ → List ℤ → List ℤ → Shape → Layout
pair_layout bits l r shape = record {
  form = form_of shape;
  spellings =
      best (first_depth bits shape) (first_samples l (mid_of l r) (side_of l r) shape)
      ∷ best (second_depth bits shape) (second_samples r (side_of l r) shape)
      ∷ [];
}
