-- The least number of units that reaches a time.
use Rattle.std.proofs.Common.{ℕ, suc, ℤ, pos, negsuc, ◌+◌, ◌*◌, ◌<◌, ◌≤◌, inl, inr, arith, ◌≤ℤ◌}
use Rattle.std.proofs.lemmas.Int.{ints}
use Rattle.std.proofs.Math.Nat.{mul-le-mul_right, suc-mul}
use Rattle.std.specs.Int.{div_ceil}
use Rattle.std.proofs.lemmas.Grind.{div_ceil_times}
use Rattle.std.proofs.lemmas.Bool.{cases_lt}
use Rattle.ff_time.specs.Fraction.{Fraction}
use Rattle.ff_time.specs.Rescale.{Reaches}

-- q times b reaches a, and one less doesn't
pub record IsCeiling (a b q : ℕ) : Type 0 where
  pub some : 0 < b
  pub enough : a ≤ q * b
  pub least : q * b < a + b

pub IsCeiling-div_ceil : (a b : ℕ) → 0 < b → IsCeiling a b (div_ceil a b)
IsCeiling-div_ceil a b h = let times = div_ceil_times a b h in record { some = h; enough = times.0; least = times.1 }

least_nat : (a b q n : ℕ) → IsCeiling a b q → a ≤ n * b → q ≤ n
least_nat a b q n h le =
    elim (cases_lt n q) [
      | inl lt ↦ let more : suc n ≤ q = omega arith in absurd (omega (arith, mul-le-mul_right b more, suc-mul n b, h.least))
      | inr ge ↦ ge
    ]

pub Reaches-ceiling : (us : ℕ) (tb : Fraction) (q : ℕ) → IsCeiling (us * tb.den) (tb.num * 1000000) q → Reaches us tb (pos q)
Reaches-ceiling us tb q h = omega (arith, ints, h.enough)

pub Reaches-least : (us : ℕ) (tb : Fraction) (q : ℕ) (n : ℤ) → IsCeiling (us * tb.den) (tb.num * 1000000) q → Reaches us tb n → pos q ≤ℤ n
Reaches-least us tb q (pos n) h r = omega (arith, ints, least_nat (us * tb.den) (tb.num * 1000000) q n h (omega (arith, ints, r)))
Reaches-least us tb q (negsuc n) h r = absurd (omega (arith, ints, r, suc-mul n (tb.num * 1000000), h.some))
