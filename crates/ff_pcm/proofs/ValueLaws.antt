-- Samples and the numbers that they are written as.
use Rattle.std.proofs.Common.{◌≡◌, ℕ, zero, suc, ◌+◌, ◌-◌, ◌^◌, ◌<◌, ◌≤◌, Bool, true, false, ℤ, pos, negsuc, ◌-ℤ◌, refl, arith}
use Rattle.std.proofs.lemmas.Int.{ints}
use Rattle.std.proofs.Math.Nat.{two-pow-succ}
use Rattle.ff_frame.specs.Audio.{FitsBits}
use Rattle.ff_bits.specs.Integers.{signed}
use Rattle.ff_pcm.specs.Bytes.{number_of}
use Rattle.ff_pcm.specs.Samples.{value_of}

halves : (bits : ℕ) → 1 ≤ bits → 2 ^ bits ≡ 2 ^ (bits - 1) + 2 ^ (bits - 1)
halves zero some = absurd (omega arith)
halves (suc p) some = let e : suc p - 1 ≡ p = omega arith in rw e (two-pow-succ p)

module _ (bits : ℕ) (some : 1 ≤ bits) where
  signed_fits : (n : ℕ) (z : ℤ) → n < 2 ^ bits → z ≡ signed bits n → FitsBits bits z
  signed_fits n (pos m) lt e = grind (arith, ints, halves bits some)
  signed_fits n (negsuc m) lt e = grind (arith, ints, halves bits some)

  middle_fits : (n : ℕ) (z : ℤ) → n < 2 ^ bits → z ≡ pos n -ℤ pos (2 ^ (bits - 1)) → FitsBits bits z
  middle_fits n (pos m) lt e = omega (arith, ints, halves bits some)
  middle_fits n (negsuc m) lt e = omega (arith, ints, halves bits some)

  -- a sample fits its bits
  pub value_fits : (sign : Bool) (n : ℕ) → n < 2 ^ bits → FitsBits bits (value_of sign bits n)
  value_fits true n lt = signed_fits n _ lt refl
  value_fits false n lt = middle_fits n _ lt refl

  signed_apart : (m n : ℕ) → m < 2 ^ bits → n < 2 ^ bits → signed bits m ≡ signed bits n → m ≡ n
  signed_apart m n lm ln e = grind (arith, ints, halves bits some)

  -- it tells its number
  pub value_apart : (sign : Bool) (m n : ℕ) → m < 2 ^ bits → n < 2 ^ bits → value_of sign bits m ≡ value_of sign bits n → m ≡ n
  value_apart true m n lm ln e = signed_apart m n lm ln e
  value_apart false m n lm ln e = omega (arith, ints, e)

  -- the number of a sample has its bits
  pub number_small : (sign : Bool) (z : ℤ) → FitsBits bits z → number_of sign bits z < 2 ^ bits
  number_small true (pos n) lt = omega (arith, halves bits some)
  number_small true (negsuc n) lt = omega (arith, halves bits some)
  number_small false (pos n) lt = omega (arith, halves bits some)
  number_small false (negsuc n) lt = omega (arith, halves bits some)

  -- and gives it back
  pub value_back : (sign : Bool) (z : ℤ) → FitsBits bits z → value_of sign bits (number_of sign bits z) ≡ z
  value_back true (pos n) lt = grind (arith, ints, halves bits some)
  value_back true (negsuc n) lt = grind (arith, ints, halves bits some)
  value_back false (pos n) lt = omega (arith, ints, halves bits some)
  value_back false (negsuc n) lt = omega (arith, ints, halves bits some)
