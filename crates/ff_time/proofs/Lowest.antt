-- Both numbers of a fraction divided by their greatest common divisor.
use Rattle.std.proofs.Common.{◌≡◌, ℕ, zero, suc, ℤ, ◌*◌, ◌/◌, ◌<◌, ◌^◌, inl, inr, pos, sym, subst, ap, ◌∙◌, arith}
use Rattle.std.proofs.Math.Nat.{div-mul_cancel, mul-div_cancel, mul-dvd-mul_right, dvd_of_mul-dvd-mul_right, eq-one_of_dvd-one, pos_of_dvd_of_pos, one-mul}
use Rattle.std.proofs.lemmas.Nat.Gcd.{same_from_IsGcd}
use Rattle.std.specs.Int.{IsGcd, ◌∣◌}
use Rattle.ff_time.specs.Fraction.{Fraction, IsBase, IsLowest, IsReduced, IsLowestOf, IsTooBig}

pub common_positive : (n d g : ℕ) → 0 < n → IsGcd n d g → 0 < g
common_positive n d g h e = pos_of_dvd_of_pos e.0 h

pub reduced_lem : (n d g : ℕ) → IsGcd n d g → IsReduced n d (record { num = n / g; den = d / g })
reduced_lem n d g h = record { common = g; greatest = h; num = sym (div-mul_cancel g h.0); den = sym (div-mul_cancel g h.1) }

pub IsReduced-lowest : (n d : ℕ) (f : Fraction) → 0 < n → IsReduced n d f → IsLowest f
IsReduced-lowest n d f some r k p q =
    let num : k * r.common ∣ n = subst (λ x. k * r.common ∣ x) (sym r.num) (mul-dvd-mul_right k p r.common) in
    let den : k * r.common ∣ d = subst (λ x. k * r.common ∣ x) (sym r.den) (mul-dvd-mul_right k q r.common) in
    let both : k * r.common ∣ 1 * r.common = subst (λ x. k * r.common ∣ x) (sym (one-mul r.common)) (r.greatest.2 (k * r.common) num den) in
    eq-one_of_dvd-one (dvd_of_mul-dvd-mul_right k (common_positive n d r.common some r.greatest) both)

same_factor : (a b n c e : ℕ) → 0 < c → c ≡ e → n ≡ a * c → n ≡ b * e → a ≡ b
same_factor a b n c e some same p q =
    sym (mul-div_cancel a some) ∙ (ap (λ x. x / c) (sym p ∙ q ∙ ap (λ x. b * x) (sym same)) ∙ mul-div_cancel b some)

same_common : (n d : ℕ) (f g : Fraction) (r : IsReduced n d f) (s : IsReduced n d g) → r.common ≡ s.common
same_common n d f g r s = same_from_IsGcd n d r.common s.common r.greatest s.greatest

-- the lowest terms are unique
pub IsReduced-num : (n d : ℕ) (f g : Fraction) → 0 < n → IsReduced n d f → IsReduced n d g → f.num ≡ g.num
IsReduced-num n d f g some r s =
    same_factor f.num g.num n r.common s.common (common_positive n d r.common some r.greatest) (same_common n d f g r s) r.num s.num

pub IsReduced-den : (n d : ℕ) (f g : Fraction) → 0 < n → IsReduced n d f → IsReduced n d g → f.den ≡ g.den
IsReduced-den n d f g some r s =
    same_factor f.den g.den d r.common s.common (common_positive n d r.common some r.greatest) (same_common n d f g r s) r.den s.den

left_positive : (x g n : ℕ) → 0 < n → n ≡ x * g → 0 < x
left_positive zero g n h e = absurd (omega (arith, e, h))
left_positive (suc x) g n h e = omega arith

-- small lowest terms are a time base
pub IsReduced-base : (n d : ℕ) (f : Fraction) → 0 < n → 0 < d → IsReduced n d f → f.num < 2 ^ 31 → f.den < 2 ^ 31 → IsBase f
IsReduced-base n d f num den r p q =
    record { num_positive = left_positive f.num r.common n num r.num; num_small = p; den_positive = left_positive f.den r.common d den r.den; den_small = q; lowest = IsReduced-lowest n d f num r }

pub IsLowestOf-base : (num den : ℤ) (f : Fraction) → IsLowestOf num den f → f.num < 2 ^ 31 → f.den < 2 ^ 31 → IsBase f
IsLowestOf-base num den f h p q = IsReduced-base h.n h.d f h.num_positive h.den_positive h.reduced p q

same_pos : (a b : ℕ) (z : ℤ) → z ≡ pos a → z ≡ pos b → a ≡ b
same_pos a b z p q = cc

-- where the lowest terms are small, none are too big
pub IsLowestOf-small : (num den : ℤ) (f g : Fraction) → IsLowestOf num den f → IsLowestOf num den g → f.num < 2 ^ 31 → f.den < 2 ^ 31 → ¬ IsTooBig g
IsLowestOf-small num den f g r s p q big =
    let same_n : s.n ≡ r.n = same_pos s.n r.n num s.num_is r.num_is in
    let same_d : s.d ≡ r.d = same_pos s.d r.d den s.den_is r.den_is in
    let other : IsReduced r.n r.d g = subst (λ n. IsReduced n r.d g) same_n (subst (λ d. IsReduced s.n d g) same_d s.reduced) in
    let num_is : f.num ≡ g.num = IsReduced-num r.n r.d f g r.num_positive r.reduced other in
    let den_is : f.den ≡ g.den = IsReduced-den r.n r.d f g r.num_positive r.reduced other in
    elim big [ inl a ↦ absurd (omega (arith, a, p, num_is)) | inr b ↦ absurd (omega (arith, b, q, den_is)) ]

pub quotient_positive : (n g : ℕ) → 0 < n → g ∣ n → 0 < n / g
quotient_positive n g some there = left_positive (n / g) g n some (sym (div-mul_cancel g there))
