-- Rescaling to the same base, in order, and there and back.
use Rattle.std.proofs.Common.{mul-pos, ◌≡◌, ℕ, ℤ, pos, negsuc, ◌+◌, ◌*◌, ◌<◌, ◌≤◌, ◌⊎◌, inl, inr, sym, subst, ap, ◌∙◌, arith, ◌*ℤ◌, ◌-ℤ◌, ◌+ℤ◌, ◌<ℤ◌, ◌≤ℤ◌}
use Rattle.std.specs.Int.RustNames.{unsigned_abs}
use Rattle.std.proofs.lemmas.Int.{ints, by_lt_z, unsigned_abs-mul}
use Rattle.std.proofs.Math.Nat.{mul_comm, mul_assoc, add-mul, zero-mul}
use Rattle.std.proofs.Math.IntN.{suc_ℤ, pred_ℤ, suc_ℤ-*ℤ, pred_ℤ-*ℤ}
use borrow.Author.Differences.{up, down}
use Rattle.ff_time.specs.Fraction.{Fraction, IsBase}
use Rattle.ff_time.specs.Rescale.{distance, IsNearest, IsRescaled}
use Rattle.ff_time.specs.laws.Laws.{IsNearAgain}
use Rattle.ff_time.proofs.Nearest.{IsNearest-unique}
use Rattle.ff_time.proofs.Scaled.{mul_less}

int_cases : (x y : ℤ) → (x <ℤ y) ⊎ ((x ≡ y) ⊎ (y <ℤ x))
int_cases x y = by_lt_z x y (λ h. inl h) (λ h. by_lt_z y x (λ g. inr (inr g)) (λ g. inr (inl (omega (arith, ints, h, g)))))

-- ---- the same base

apart_none : (x y : ℤ) → unsigned_abs (x -ℤ y) ≡ 0 → x ≡ y
apart_none x y e = omega (arith, ints, e)

same_product : (x y : ℤ) (d : ℕ) → 0 < d → x *ℤ pos d ≡ y *ℤ pos d → x ≡ y
same_product x y d some e =
    elim (int_cases x y) [
      | inl lt ↦ absurd (omega (arith, ints, mul_less x y d lt, e, some))
      | inr (inl same) ↦ same
      | inr (inr gt) ↦ absurd (omega (arith, ints, mul_less y x d gt, e, some))
    ]

distance_none : (a : ℤ) (q : ℕ) → distance (a *ℤ pos q) q a ≡ 0
distance_none a q = omega (arith, ints)

whole_nearest : (a : ℤ) (q : ℕ) → 0 < q → IsNearest (a *ℤ pos q) q a
whole_nearest a q some =
    record {
      nearest = λ s. omega (arith, distance_none a q);
      away = λ s e. let same : s ≡ a = same_product s a q some (apart_none (s *ℤ pos q) (a *ℤ pos q) (e ∙ distance_none a q)) in subst (λ x. unsigned_abs x ≤ unsigned_abs a) (sym same) (omega arith);
    }

pub IsRescaled-same : (a r : ℤ) (base : Fraction) → IsBase base → IsRescaled a base base r → r ≡ a
IsRescaled-same a r base b h =
    let q : ℕ = base.den * base.num in
    let some : 0 < q = mul-pos b.den_positive b.num_positive in
    let here : IsNearest (a *ℤ pos q) q r = subst (λ n. IsNearest (a *ℤ pos n) q r) (mul_comm base.num base.den) h in
    IsNearest-unique (a *ℤ pos q) q r a some here (whole_nearest a q some)

-- ---- in order

product_ordered : (a b : ℤ) (n : ℕ) → a ≤ℤ b → (a *ℤ pos n) ≤ℤ (b *ℤ pos n)
product_ordered a b n h =
    elim (int_cases a b) [
      | inl lt ↦ omega (arith, ints, mul_less a b n lt)
      | inr (inl same) ↦ subst (λ x. (a *ℤ pos n) ≤ℤ (x *ℤ pos n)) same (omega (arith, ints))
      | inr (inr gt) ↦ absurd (omega (arith, ints, h, gt))
    ]

meet : (r s p o : ℤ) (q : ℕ) → 0 < q → (s +ℤ pos q) ≤ℤ r → p ≤ℤ o → unsigned_abs (r -ℤ p) ≤ unsigned_abs (s -ℤ p) → unsigned_abs (s -ℤ o) ≤ unsigned_abs (r -ℤ o) → p ≡ o
meet r s p o q some apart le near far = omega (arith, ints, some, apart, le, near, far)

nearest_ordered : (p o : ℤ) (q : ℕ) (r s : ℤ) → 0 < q → p ≤ℤ o → IsNearest p q r → IsNearest o q s → r ≤ℤ s
nearest_ordered p o q r s some le g h =
    by_lt_z s r
    (λ lt.
    let same : p ≡ o = meet (r *ℤ pos q) (s *ℤ pos q) p o q some (mul_less s r q lt) le (g.nearest s) (h.nearest r) in
    let one : r ≡ s = IsNearest-unique o q r s some (subst (λ x. IsNearest x q r) same g) h in
    absurd (omega (arith, ints, lt, one)))
    (λ ge. ge)

pub IsRescaled-ordered : (a b r s : ℤ) (from to : Fraction) → IsBase from → IsBase to → a ≤ℤ b → IsRescaled a from to r → IsRescaled b from to s → r ≤ℤ s
IsRescaled-ordered a b r s from to f t le g h =
    nearest_ordered (a *ℤ pos (from.num * to.den)) (b *ℤ pos (from.num * to.den)) (from.den * to.num) r s (mul-pos f.den_positive t.num_positive) (product_ordered a b (from.num * to.den) le) g h

-- ---- there and back

half_at : (r p : ℤ) (q : ℕ) → 0 < q → unsigned_abs (r -ℤ p) ≤ unsigned_abs (r +ℤ pos q -ℤ p) → unsigned_abs (r -ℤ p) ≤ unsigned_abs (r -ℤ pos q -ℤ p) → 2 * unsigned_abs (r -ℤ p) ≤ q
half_at r p q some above below = omega (arith, ints, some, above, below)

nearest_half : (p : ℤ) (q : ℕ) (r : ℤ) → 0 < q → IsNearest p q r → 2 * distance p q r ≤ q
nearest_half p q r some h =
    half_at (r *ℤ pos q) p q some
    (subst (λ x. distance p q r ≤ unsigned_abs (x -ℤ p)) (suc_ℤ-*ℤ r (pos q)) (h.nearest (suc_ℤ r)))
    (subst (λ x. distance p q r ≤ unsigned_abs (x -ℤ p)) (pred_ℤ-*ℤ r (pos q)) (h.nearest (pred_ℤ r)))

product_split : (z : ℤ) (d : ℕ) → z *ℤ pos d ≡ pos (up z * d) -ℤ pos (down z * d)
product_split (pos n) d = omega (arith, ints, zero-mul d)
product_split (negsuc n) d = omega (arith, ints, zero-mul d)

sum_times : (a b c d : ℕ) → (a + b + c) * d ≡ a * d + b * d + c * d
sum_times a b c d = omega (arith, add-mul (a + b) c d, add-mul a b d)

difference_times : (b a : ℤ) (d : ℕ) → (b -ℤ a) *ℤ pos d ≡ b *ℤ pos d -ℤ a *ℤ pos d
difference_times b a d =
    let z : ℤ = b -ℤ a in
    let sides : up z + down b + up a ≡ down z + up b + down a = omega (arith, ints) in
    let products : up z * d + down b * d + up a * d ≡ down z * d + up b * d + down a * d = sym (sum_times (up z) (down b) (up a) d) ∙ (ap (λ x. x * d) sides ∙ sum_times (down z) (up b) (down a) d) in
    omega (arith, ints, products, product_split z d, product_split b d, product_split a d)

together : (x y w : ℤ) (n d : ℕ) → 2 * unsigned_abs (y -ℤ x) ≤ d → 2 * unsigned_abs (w -ℤ y) ≤ n → 2 * unsigned_abs (w -ℤ x) ≤ n + d
together x y w n d p q = omega (arith, ints, p, q)

pub IsRescaled-again : (a r b : ℤ) (from to : Fraction) → IsBase from → IsBase to → IsRescaled a from to r → IsRescaled r to from b → IsNearAgain a from to b
IsRescaled-again a r b from to f t g h =
    let n : ℕ = from.num * to.den in
    let d : ℕ = to.num * from.den in
    let den : from.den * to.num ≡ d = mul_comm from.den to.num in
    let num : to.den * from.num ≡ n = mul_comm to.den from.num in
    let there : IsNearest (a *ℤ pos n) d r = subst (λ x. IsNearest (a *ℤ pos n) x r) den g in
    let back : IsNearest (r *ℤ pos d) n b = subst (λ x. IsNearest (r *ℤ pos d) x b) num h in
    let wide : 2 * unsigned_abs (b *ℤ pos n -ℤ a *ℤ pos n) ≤ n + d =
    together (a *ℤ pos n) (r *ℤ pos d) (b *ℤ pos n) n d (nearest_half (a *ℤ pos n) d r (mul-pos t.num_positive f.den_positive) there) (nearest_half (r *ℤ pos d) n b (mul-pos f.num_positive t.den_positive) back) in
    let size : unsigned_abs (b -ℤ a) * n ≡ unsigned_abs (b *ℤ pos n -ℤ a *ℤ pos n) = sym (unsigned_abs-mul (b -ℤ a) (pos n)) ∙ ap unsigned_abs (difference_times b a n) in
    omega (arith, wide, size, mul_assoc 2 (unsigned_abs (b -ℤ a)) n)
