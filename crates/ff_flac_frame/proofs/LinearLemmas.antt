-- Sums of products.
use Rattle.std.proofs.Common.{◌≡◌, ℕ, ◌+◌, ◌-◌, ◌*◌, ◌^◌, ◌<◌, ◌≤◌, List, length, drop, get_or, refl, sym, ap, ◌∙◌, arith}
use Rattle.std.proofs.Common.{ℤ, pos, negsuc, ◌+ℤ◌, ◌*ℤ◌, to_z, of_z, unsigned_abs}
use Rattle.std.specs.Int.{w64}
use Rattle.std.specs.Int.Signed.{shr_z}
use Rattle.std.proofs.lemmas.Int.{ints, to_z-of_z, unsigned_abs-mul, fits_signed_from_abs}
use Rattle.std.proofs.lemmas.List.{drop_more, drop_all}
use Rattle.std.proofs.Math.Nat.{mul-le-mul}
use Rattle.ff_frame.specs.Audio.{FitsBits}
use Rattle.ff_flac_frame.specs.Prediction.{ago, weighted}

-- how far a number within a depth is from 0
pub abs_in_depth : (depth : ℕ) (x : ℤ) → FitsBits depth x → unsigned_abs x ≤ 2 ^ (depth - 1)
abs_in_depth depth (pos n) h = omega (arith, ints, h)
abs_in_depth depth (negsuc n) h = omega (arith, ints, h)

pub product_bound : (c x : ℤ) → FitsBits 15 c → FitsBits 25 x → unsigned_abs (c *ℤ x) ≤ 2 ^ 38
product_bound c x h g =
    let a : unsigned_abs c ≤ 16384 = abs_in_depth 15 c h in
    let b : unsigned_abs x ≤ 16777216 = abs_in_depth 25 x g in
    let m : unsigned_abs c * unsigned_abs x ≤ 16384 * 16777216 = mul-le-mul a b in
    rw (unsigned_abs-mul c x) m

pub sum_bound : (a b : ℤ) → unsigned_abs (a +ℤ b) ≤ unsigned_abs a + unsigned_abs b
sum_bound (pos m) (pos n) = omega (arith, ints)
sum_bound (pos m) (negsuc n) = omega (arith, ints)
sum_bound (negsuc m) (pos n) = omega (arith, ints)
sum_bound (negsuc m) (negsuc n) = omega (arith, ints)

pub shr_bound : (x : ℤ) (m : ℕ) → 0 < m → unsigned_abs (shr_z x m) ≤ unsigned_abs x
shr_bound (pos n) m h = omega arith
shr_bound (negsuc n) m h = omega arith

-- one term more
pub weighted-step : (coefs xs : List ℤ) (i k : ℕ) → i < length coefs → weighted (drop i coefs) k xs ≡ (get_or coefs i (pos 0) *ℤ ago k xs) +ℤ weighted (drop (i + 1) coefs) (k + 1) xs
weighted-step coefs xs i k lt = rw (drop_more coefs i (pos 0) lt) refl

pub add_assoc : (a b c : ℤ) → (a +ℤ b) +ℤ c ≡ a +ℤ (b +ℤ c)
add_assoc a b c = omega (arith, ints)

pub weighted_goes_on : (coefs xs : List ℤ) (i : ℕ) (sum term total : ℤ) → i < length coefs → term ≡ get_or coefs i (pos 0) *ℤ ago (i + 1) xs → sum +ℤ weighted (drop i coefs) (i + 1) xs ≡ total → (sum +ℤ term) +ℤ weighted (drop (i + 1) coefs) (i + 1 + 1) xs ≡ total
weighted_goes_on coefs xs i sum term total lt e so_far =
    add_assoc sum term (weighted (drop (i + 1) coefs) (i + 1 + 1) xs) ∙ ap (λ (t : ℤ). sum +ℤ (t +ℤ weighted (drop (i + 1) coefs) (i + 1 + 1) xs)) e ∙ ap (λ (t : ℤ). sum +ℤ t) (sym (weighted-step coefs xs i (i + 1) lt)) ∙ so_far

pub weighted_ends : (coefs xs : List ℤ) (i : ℕ) (sum total : ℤ) → length coefs ≤ i → sum +ℤ weighted (drop i coefs) (i + 1) xs ≡ total → sum ≡ total
weighted_ends coefs xs i sum total le so_far =
    let e : weighted (drop i coefs) (i + 1) xs ≡ pos 0 = ap (λ (cs : List ℤ). weighted cs (i + 1) xs) (drop_all i coefs le) in
    let z : sum +ℤ pos 0 ≡ sum = omega (arith, ints) in
    sym z ∙ ap (λ (t : ℤ). sum +ℤ t) (sym e) ∙ so_far

-- a sum of so many terms is the number that the code keeps
pub sum_same : (x : ℤ) → unsigned_abs x ≤ 2 ^ 43 + 2 ^ 38 → to_z w64 (of_z w64 x) ≡ x
sum_same x h = to_z-of_z w64 x (fits_signed_from_abs w64 x (omega (arith, h)))
