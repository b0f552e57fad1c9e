-- Decimals: what one more of them adds, and what they are worth in a unit.
use Rattle.std.proofs.Common.{◌≡◌, ℕ, zero, suc, ◌+◌, ◌-◌, ◌*◌, ◌/◌, ◌^◌, ◌<◌, ◌≤◌, inl, inr, sym, subst, ap, ◌∙◌, arith}
use Rattle.std.proofs.Math.Nat.{mul_assoc, mul_comm, pow-suc, pow-succ', mul-add-div_right, div-div-eq-div-mul, mul-div-mul_right, le-mul_of_pos_right}
use Rattle.std.proofs.lemmas.Nat.{div_below, pow-add}
use Rattle.std.proofs.lemmas.Bool.{cases_lt}
use Rattle.ff_time.specs.Reading.{cap, millionths_of, value_at}

pub ten_positive : (k : ℕ) → 0 < 10 ^ k
ten_positive zero = omega arith
ten_positive (suc k) = omega (arith, ten_positive k, pow-suc 10 k)

-- a decimal among the first six
pub millionths_few : (k m d : ℕ) → k < 6 → millionths_of (k + 1) (m * 10 + d) ≡ millionths_of k m + d * 10 ^ (5 - k)
millionths_few zero m d h = omega arith
millionths_few (suc zero) m d h = omega arith
millionths_few (suc (suc zero)) m d h = omega arith
millionths_few (suc (suc (suc zero))) m d h = omega arith
millionths_few (suc (suc (suc (suc zero)))) m d h = omega arith
millionths_few (suc (suc (suc (suc (suc zero))))) m d h = omega arith
millionths_few (suc (suc (suc (suc (suc (suc k)))))) m d h = absurd (omega (arith, h))

-- behind the sixth decimal the number is cut
millionths_cut : (j m : ℕ) → millionths_of (6 + j) m ≡ m / 10 ^ j
millionths_cut j m =
    let power : 10 ^ (6 + j) ≡ 10 ^ j * 1000000 = pow-add 10 6 j ∙ mul_comm 1000000 (10 ^ j) in
    let some : 0 < 1000000 = omega arith in
    ap (λ p. m * 1000000 / p) power ∙ mul-div-mul_right m (10 ^ j) some

tenth_of : (m d : ℕ) → d < 10 → (m * 10 + d) / 10 ≡ m
tenth_of m d h = omega arith

cut_again : (j m d : ℕ) → d < 10 → (m * 10 + d) / 10 ^ suc j ≡ m / 10 ^ j
cut_again j m d h =
    ap (λ p. (m * 10 + d) / p) (pow-succ' 10 j) ∙ (sym (div-div-eq-div-mul (m * 10 + d) 10 (10 ^ j)) ∙ ap (λ x. x / 10 ^ j) (tenth_of m d h))

pub millionths_many : (k m d : ℕ) → 6 ≤ k → d < 10 → millionths_of (k + 1) (m * 10 + d) ≡ millionths_of k m
millionths_many k m d le h =
    let j : ℕ = k - 6 in
    let here : k ≡ 6 + j = omega arith in
    let there : k + 1 ≡ 6 + suc j = omega arith in
    ap (λ x. millionths_of x (m * 10 + d)) there ∙ (millionths_cut (suc j) (m * 10 + d) ∙ (cut_again j m d h ∙ (sym (millionths_cut j m) ∙ ap (λ x. millionths_of x m) (sym here))))

-- what decimals are worth in a unit that a million is a multiple of
millionths_worth : (k m us q : ℕ) → 0 < us → 0 < q → q * us ≡ 1000000 → millionths_of k m * us / 1000000 ≡ m * us / 10 ^ k
millionths_worth k m us q some many e =
    let part : millionths_of k m * us / 1000000 ≡ millionths_of k m / q = ap (λ p. millionths_of k m * us / p) (sym e) ∙ mul-div-mul_right (millionths_of k m) q some in
    let whole : m * 1000000 ≡ m * us * q = ap (λ p. m * p) (sym e ∙ mul_comm q us) ∙ sym (mul_assoc m us q) in
    part ∙ (div-div-eq-div-mul (m * 1000000) (10 ^ k) q ∙ (ap (λ p. p / (10 ^ k * q)) whole ∙ mul-div-mul_right (m * us) (10 ^ k) many))

pub value_at-split : (w k m us : ℕ) → value_at w k m us ≡ w * us + m * us / 10 ^ k
value_at-split w k m us =
    let product : (w * 10 ^ k + m) * us ≡ w * us * 10 ^ k + m * us = grind arith in
    ap (λ x. x / 10 ^ k) product ∙ mul-add-div_right (ten_positive k) (w * us) (m * us)

cap_times : (w us x : ℕ) → 0 < us → cap (cap w * us + x) ≡ cap (w * us + x)
cap_times w us x some =
    elim (cases_lt 1000000000000001 w) [
      | inl lt ↦
          let top : cap w ≡ 1000000000000001 = omega arith in
          let near : 1000000000000001 ≤ cap w * us = subst (λ c. 1000000000000001 ≤ c * us) (sym top) (le-mul_of_pos_right 1000000000000001 some) in
          omega (arith, le-mul_of_pos_right w some, near)
      | inr le ↦ let same : cap w ≡ w = omega arith in ap (λ c. cap (c * us + x)) same
    ]

-- the code's microseconds are the fraction's, cut off
pub value_at-capped : (w k m us q : ℕ) → 0 < us → 0 < q → q * us ≡ 1000000 → cap (cap w * us + millionths_of k m * us / 1000000) ≡ cap (value_at w k m us)
value_at-capped w k m us q some many e =
    ap (λ x. cap (cap w * us + x)) (millionths_worth k m us q some many e) ∙ (cap_times w us (m * us / 10 ^ k) some ∙ ap cap (sym (value_at-split w k m us)))

pub millionths_below : (k m : ℕ) → m < 10 ^ k → millionths_of k m < 1000000
millionths_below k m h = div_below (m * 1000000) (10 ^ k) 1000000 (ten_positive k) (omega (arith, h, mul_comm 1000000 (10 ^ k)))

pub place_small : (k d : ℕ) → d < 10 → d * 10 ^ (5 - k) ≤ 900000
place_small zero d h = omega arith
place_small (suc zero) d h = omega arith
place_small (suc (suc zero)) d h = omega arith
place_small (suc (suc (suc zero))) d h = omega arith
place_small (suc (suc (suc (suc zero)))) d h = omega arith
place_small (suc (suc (suc (suc (suc k))))) d h = let end : 5 - suc (suc (suc (suc (suc k)))) ≡ 0 = omega arith in subst (λ e. d * 10 ^ e ≤ 900000) (sym end) (omega arith)
