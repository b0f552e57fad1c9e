-- The whole number nearest to a fraction.
use Rattle.std.proofs.Common.{mul-pos, ◌≡◌, ℕ, zero, suc, ℤ, pos, negsuc, neg_ℤ, ◌+◌, ◌-◌, ◌*◌, ◌<◌, ◌≤◌, ◌⊎◌, inl, inr, sym, subst, ap, ◌∙◌, refl, arith, ◌*ℤ◌, ◌-ℤ◌}
use Rattle.std.specs.Int.RustNames.{unsigned_abs, FitsSigned}
use Rattle.std.proofs.lemmas.Int.{ints}
use Rattle.std.proofs.Math.Nat.{mul-le-mul_right, suc-mul, zero-mul}
use Rattle.std.proofs.Math.IntN.{neg_ℤ-neg_ℤ}
use Rattle.std.proofs.lemmas.Bool.{cases_lt}
use Rattle.std.specs.Int.{w64}
use Rattle.ff_time.specs.Fraction.{Fraction, IsBase}
use Rattle.ff_time.specs.Rescale.{distance, IsNearest, IsRescaled, IsRounded}

-- how far apart two natural numbers are
abbrev apart : ℕ → ℕ → ℕ
apart x y = (x - y) + (y - x)

abs-sub : (x y : ℕ) → unsigned_abs (pos x -ℤ pos y) ≡ apart x y
abs-sub x y = omega (arith, ints)

abs-below : (x y : ℕ) → unsigned_abs (neg_ℤ (pos x) -ℤ pos y) ≡ x + y
abs-below x y = omega (arith, ints)

pub step_up : (r s q : ℕ) → r < s → r * q + q ≤ s * q
step_up r s q h = let e : suc r ≤ s = omega arith in omega (arith, mul-le-mul_right q e, suc-mul r q)

near_apart : (p q r s : ℕ) → IsRounded p q r → s ≤ r → apart (r * q) p ≤ apart (s * q) p
near_apart p q r s h le =
    elim (cases_lt s r) [
      | inl lt ↦ omega (arith, h.low, h.high, h.some, step_up s r q lt)
      | inr ge ↦ let e : r ≡ s = omega arith in subst (λ t. apart (r * q) p ≤ apart (t * q) p) e (omega arith)
    ]

far_apart : (p q r s : ℕ) → IsRounded p q r → r < s → apart (r * q) p < apart (s * q) p
far_apart p q r s h lt = omega (arith, h.low, h.high, h.some, step_up r s q lt)

below_apart : (p q r s : ℕ) → IsRounded p q r → apart (r * q) p < (suc s * q) + p
below_apart p q r s h = omega (arith, h.low, h.high, h.some, suc-mul s q)

distance-pos : (p q t : ℕ) → distance (pos p) q (pos t) ≡ apart (t * q) p
distance-pos p q t = abs-sub (t * q) p

distance-negsuc : (p q t : ℕ) → distance (pos p) q (negsuc t) ≡ (suc t * q) + p
distance-negsuc p q t = abs-below (suc t * q) p

nearest_pos : (p q r : ℕ) → IsRounded p q r → (s : ℤ) → distance (pos p) q (pos r) ≤ distance (pos p) q s
nearest_pos p q r h (pos t) =
    elim (cases_lt r t) [
      | inl lt ↦ omega (arith, far_apart p q r t h lt, distance-pos p q r, distance-pos p q t)
      | inr le ↦ omega (arith, near_apart p q r t h le, distance-pos p q r, distance-pos p q t)
    ]
nearest_pos p q r h (negsuc t) = omega (arith, below_apart p q r t h, distance-pos p q r, distance-negsuc p q t)

away_pos : (p q r : ℕ) → IsRounded p q r → (s : ℤ) → distance (pos p) q s ≡ distance (pos p) q (pos r) → unsigned_abs s ≤ r
away_pos p q r h (pos t) e =
    elim (cases_lt r t) [
      | inl lt ↦ absurd (omega (arith, far_apart p q r t h lt, distance-pos p q r, distance-pos p q t))
      | inr le ↦ le
    ]
away_pos p q r h (negsuc t) e = absurd (omega (arith, below_apart p q r t h, distance-pos p q r, distance-negsuc p q t))

-- what is rounded with halves upwards is nearest
pub IsNearest-pos : (p q r : ℕ) → IsRounded p q r → IsNearest (pos p) q (pos r)
IsNearest-pos p q r h = record { nearest = nearest_pos p q r h; away = away_pos p q r h }

pub neg-mul : (z : ℤ) (q : ℕ) → neg_ℤ z *ℤ pos q ≡ neg_ℤ (z *ℤ pos q)
neg-mul (pos zero) q = subst (λ n. pos n ≡ neg_ℤ (pos n)) (sym (zero-mul q)) refl
neg-mul (pos (suc n)) q = refl
neg-mul (negsuc n) q = sym (neg_ℤ-neg_ℤ (pos (suc n * q)))

abs-neg_sub : (x y : ℤ) → unsigned_abs (neg_ℤ x -ℤ neg_ℤ y) ≡ unsigned_abs (x -ℤ y)
abs-neg_sub x y = omega (arith, ints)

abs-neg : (z : ℤ) → unsigned_abs (neg_ℤ z) ≡ unsigned_abs z
abs-neg z = omega (arith, ints)

distance-neg : (p : ℤ) (q : ℕ) (s : ℤ) → distance (neg_ℤ p) q (neg_ℤ s) ≡ distance p q s
distance-neg p q s = ap (λ x. unsigned_abs (x -ℤ neg_ℤ p)) (neg-mul s q) ∙ abs-neg_sub (s *ℤ pos q) p

distance-neg_left : (p : ℤ) (q : ℕ) (s : ℤ) → distance p q (neg_ℤ s) ≡ distance (neg_ℤ p) q s
distance-neg_left p q s = sym (distance-neg p q (neg_ℤ s)) ∙ ap (distance (neg_ℤ p) q) (neg_ℤ-neg_ℤ s)

-- turning the sign of the fraction turns that of the answer
pub IsNearest-neg : (p : ℤ) (q : ℕ) (r : ℤ) → IsNearest p q r → IsNearest (neg_ℤ p) q (neg_ℤ r)
IsNearest-neg p q r h =
    record {
      nearest = λ s. omega (arith, h.nearest (neg_ℤ s), distance-neg p q r, distance-neg_left p q s);
      away = λ s e. omega (arith, h.away (neg_ℤ s) (distance-neg_left p q s ∙ e ∙ distance-neg p q r), abs-neg s, abs-neg r);
    }

opposite : (r s : ℤ) → unsigned_abs r ≡ unsigned_abs s → (r ≡ s) ⊎ (r ≡ neg_ℤ s)
opposite (pos m) (pos n) e = inl (ap pos e)
opposite (pos m) (negsuc n) e = inr (omega (arith, ints))
opposite (negsuc m) (pos n) e = inr (omega (arith, ints))
opposite (negsuc m) (negsuc n) e = inl (omega (arith, ints))

no_factor : (r : ℤ) (q : ℕ) → 0 < q → unsigned_abs (r *ℤ pos q) ≡ 0 → r ≡ pos 0
no_factor (pos zero) q some e = refl
no_factor (pos (suc n)) q some e = let product : suc n * q ≡ 0 = e in absurd (omega (arith, product, suc-mul n q))
no_factor (negsuc n) q some e = let product : suc n * q ≡ 0 = sym (abs-neg (pos (suc n * q))) ∙ e in absurd (omega (arith, product, suc-mul n q))

both_near : (x p : ℤ) → unsigned_abs (x -ℤ p) ≡ unsigned_abs (neg_ℤ x -ℤ p) → unsigned_abs (x -ℤ p) ≤ unsigned_abs (pos 0 -ℤ p) → unsigned_abs x ≡ 0
both_near x p e h = omega (arith, ints)

-- there is one nearest number
pub IsNearest-unique : (p : ℤ) (q : ℕ) (r s : ℤ) → 0 < q → IsNearest p q r → IsNearest p q s → r ≡ s
IsNearest-unique p q r s some g h =
    let same : distance p q s ≡ distance p q r = omega (arith, g.nearest s, h.nearest r) in
    let size : unsigned_abs r ≡ unsigned_abs s = omega (arith, g.away s same, h.away r (sym same)) in
    elim (opposite r s size) [
      | inl e ↦ e
      | inr e ↦
          let turned : r *ℤ pos q ≡ neg_ℤ (s *ℤ pos q) = ap (λ z. z *ℤ pos q) e ∙ neg-mul s q in
          let zero_at : distance p q s ≤ unsigned_abs (pos 0 -ℤ p) = subst (λ n. distance p q s ≤ unsigned_abs (pos n -ℤ p)) (zero-mul q) (h.nearest (pos 0)) in
          let none : s ≡ pos 0 = no_factor s q some (both_near (s *ℤ pos q) p (same ∙ ap (λ z. unsigned_abs (z -ℤ p)) turned) zero_at) in
          omega (arith, ints, e, none)
    ]

-- the sign and the size apart
pub IsNearest-size_neg : (a z : ℤ) (scale unit m r : ℕ) → a ≡ neg_ℤ (pos m) → z ≡ neg_ℤ (pos r) → IsRounded (m * scale) unit r → IsNearest (a *ℤ pos scale) unit z
IsNearest-size_neg a z scale unit m r is_neg out h =
    let product : neg_ℤ (pos (m * scale)) ≡ a *ℤ pos scale = sym (ap (λ x. x *ℤ pos scale) is_neg ∙ neg-mul (pos m) scale) in
    subst (λ x. IsNearest (a *ℤ pos scale) unit x) (sym out)
    (subst (λ x. IsNearest x unit (neg_ℤ (pos r))) product (IsNearest-neg (pos (m * scale)) unit (pos r) (IsNearest-pos (m * scale) unit r h)))

pub IsNearest-size_pos : (a z : ℤ) (scale unit m r : ℕ) → a ≡ pos m → z ≡ pos r → IsRounded (m * scale) unit r → IsNearest (a *ℤ pos scale) unit z
IsNearest-size_pos a z scale unit m r is_pos out h =
    let product : pos (m * scale) ≡ a *ℤ pos scale = sym (ap (λ x. x *ℤ pos scale) is_pos) in
    subst (λ x. IsNearest (a *ℤ pos scale) unit x) (sym out)
    (subst (λ x. IsNearest x unit (pos r)) product (IsNearest-pos (m * scale) unit r h))

-- what fits leaves no answer that doesn't
pub IsRescaled-fits : (a : ℤ) (from to : Fraction) (v r : ℤ) → IsBase from → IsBase to → IsRescaled a from to v → IsRescaled a from to r → FitsSigned w64 v → FitsSigned w64 r
IsRescaled-fits a from to v r f t g h fits =
    let some : 0 < from.den * to.num = mul-pos f.den_positive t.num_positive in
    subst (FitsSigned w64) (IsNearest-unique (a *ℤ pos (from.num * to.den)) (from.den * to.num) v r some g h) fits
