-- Products of whole numbers by natural ones: what they keep.
use Rattle.std.proofs.Common.{◌≡◌, ℕ, suc, ℤ, pos, negsuc, neg_ℤ, ◌*◌, ◌<◌, ap, ◌∙◌, refl, arith, ◌*ℤ◌, ◌+ℤ◌, ◌<ℤ◌, ◌≤ℤ◌, Ordering}
use Rattle.std.proofs.lemmas.Int.{ints}
use Rattle.std.proofs.lemmas.Cmp.{int_ranked}
use Rattle.std.proofs.Math.Nat.{mul_assoc, suc-mul}
use Rattle.std.specs.Ordering.{int_cmp, MatchOrdering}
use Rattle.std.specs.declared.cmp.Ordering.TheVariants.{Less, Equal, Greater}
use Rattle.ff_time.proofs.Nearest.{neg-mul, step_up}

-- by one factor, then another
pub mul-mul : (a : ℤ) (n d : ℕ) → (a *ℤ pos n) *ℤ pos d ≡ a *ℤ pos (n * d)
mul-mul (pos m) n d = ap pos (mul_assoc m n d)
mul-mul (negsuc m) n d = neg-mul (pos (suc m * n)) d ∙ ap (λ x. neg_ℤ (pos x)) (mul_assoc (suc m) n d)

-- a greater number gives a product that is greater by the factor
pub mul_less : (x y : ℤ) (d : ℕ) → x <ℤ y → (x *ℤ pos d +ℤ pos d) ≤ℤ (y *ℤ pos d)
mul_less (pos m) (pos n) d h = omega (arith, ints, step_up m n d (omega (arith, ints, h)))
mul_less (pos m) (negsuc n) d h = absurd (omega (arith, ints, h))
mul_less (negsuc m) (pos n) d h = omega (arith, ints, suc-mul m d)
mul_less (negsuc m) (negsuc n) d h = omega (arith, ints, step_up (suc n) (suc m) d (omega (arith, ints, h)))

ranked : (x y : ℤ) (o : Ordering) → MatchOrdering o (x <ℤ y) (x ≡ y) (y <ℤ x) → (p : Ordering) → MatchOrdering p (x <ℤ y) (x ≡ y) (y <ℤ x) → o ≡ p
ranked x y Less h Less k = refl
ranked x y Less h Equal k = absurd (omega (arith, ints, h, k))
ranked x y Less h Greater k = absurd (omega (arith, ints, h, k))
ranked x y Equal h Less k = absurd (omega (arith, ints, h, k))
ranked x y Equal h Equal k = refl
ranked x y Equal h Greater k = absurd (omega (arith, ints, h, k))
ranked x y Greater h Less k = absurd (omega (arith, ints, h, k))
ranked x y Greater h Equal k = absurd (omega (arith, ints, h, k))
ranked x y Greater h Greater k = refl

ranks_scaled : (x y : ℤ) (d : ℕ) (o : Ordering) → 0 < d → MatchOrdering o (x <ℤ y) (x ≡ y) (y <ℤ x) → MatchOrdering o ((x *ℤ pos d) <ℤ (y *ℤ pos d)) (x *ℤ pos d ≡ y *ℤ pos d) ((y *ℤ pos d) <ℤ (x *ℤ pos d))
ranks_scaled x y d Less some h = omega (arith, ints, mul_less x y d h, some)
ranks_scaled x y d Equal some h = ap (λ z. z *ℤ pos d) h
ranks_scaled x y d Greater some h = omega (arith, ints, mul_less y x d h, some)

-- a positive factor keeps the order
pub int_cmp-scaled : (x y : ℤ) (d : ℕ) → 0 < d → int_cmp (x *ℤ pos d) (y *ℤ pos d) ≡ int_cmp x y
int_cmp-scaled x y d some =
    ranked (x *ℤ pos d) (y *ℤ pos d) (int_cmp (x *ℤ pos d) (y *ℤ pos d)) (int_ranked (x *ℤ pos d) (y *ℤ pos d) _ refl) (int_cmp x y) (ranks_scaled x y d (int_cmp x y) some (int_ranked x y _ refl))
