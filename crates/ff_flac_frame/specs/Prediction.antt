-- How samples are predicted from those before them (RFC 9639, sections 9.2.5 and 9.2.6).
use Rattle.std.specs.Prelude.{ℕ, ◌+◌, ◌-◌, ◌^◌, ◌<◌, ◌==◌, if◌then◌else◌, List, [], ◌∷◌, ◌++◌, length, slice_index_or, ℤ, pos, ◌+ℤ◌, ◌-ℤ◌, ◌*ℤ◌}
use Rattle.std.specs.Int.Signed.{shr_z}
use Rattle.ff_frame.specs.Audio.{FitsBits}

-- the sample k before the next one
abbrev pub ago : ℕ → List ℤ → ℤ
ago k xs = slice_index_or xs (length xs - k) (pos 0)

-- the fixed prediction of this order (section 9.2.5)
abbrev pub fixed : ℕ → List ℤ → ℤ
fixed order xs =
    if order == 0 then pos 0 else (if order == 1 then ago 1 xs
    else (if order == 2 then ((pos 2 *ℤ ago 1 xs) -ℤ ago 2 xs)
    else (if order == 3 then (((pos 3 *ℤ ago 1 xs) -ℤ (pos 3 *ℤ ago 2 xs)) +ℤ ago 3 xs)
    else ((((pos 4 *ℤ ago 1 xs) -ℤ (pos 6 *ℤ ago 2 xs)) +ℤ (pos 4 *ℤ ago 3 xs)) -ℤ ago 4 xs))))

-- each coefficient times its sample, the first of them on the sample k before the next one
abbrev pub weighted : List ℤ → ℕ → List ℤ → ℤ
weighted [] k xs = pos 0
weighted (c ∷ coefs) k xs = (c *ℤ ago k xs) +ℤ weighted coefs (k + 1) xs

-- the linear prediction: the sum of coefficient times sample, shifted right (section 9.2.6)
unfoldable pub linear : List ℤ → ℕ → List ℤ → ℤ
linear coefs shift xs = shr_z (weighted coefs 1 xs) (2 ^ shift)

-- the samples so far, and those that the residuals stand for under this prediction
abbrev pub restored : (List ℤ → ℤ) → List ℤ → List ℤ → List ℤ
restored predicted xs [] = xs
restored predicted xs (r ∷ rest) = restored predicted (xs ++ (predicted xs +ℤ r) ∷ []) rest

-- each sample is within the depth
abbrev pub AllInDepth : ℕ → List ℤ → Type 0
AllInDepth depth xs = (k : ℕ) → k < length xs → FitsBits depth (slice_index_or xs k (pos 0))
