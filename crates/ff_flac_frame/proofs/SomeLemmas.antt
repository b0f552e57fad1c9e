-- What some completion of a field in part passes.
use Rattle.std.proofs.Common.{◌≡◌, ℕ, zero, suc, ◌+◌, ◌*◌, ◌/◌, ◌^◌, ◌<◌, ◌==◌, Bool, true, false, ltb, ◌||◌, refl, sym, ap, ◌∙◌, arith, inl, inr}
use Rattle.std.proofs.Math.Nat.{pow-suc}
use Rattle.std.proofs.lemmas.Bool.{eq-eqb, ne_eqb, lt-ltb, cases_eq, eqb-true, eqb-false, ltb-true}
use Rattle.std.proofs.lemmas.Nat.{shr-shr}
use Rattle.ff_bits.specs.Reading.{some}

pub some-all : (n v : ℕ) → some n (λ w. true) v ≡ true
some-all zero v = refl
some-all (suc n) v = ap (λ b. b || some n (λ w. true) (2 * v + 1)) (some-all n (2 * v))

or_same : (a b c : Bool) → (a ≡ true → c ≡ true) → (b ≡ true → c ≡ true) → (a ≡ false → b ≡ false → c ≡ false) → (a || b) ≡ c
or_same true b c f g h = sym (f refl)
or_same false true c f g h = sym (g refl)
or_same false false c f g h = sym (h refl refl)

pub some-equal : (w n v : ℕ) → some n (λ x. x == w) v ≡ (w / 2 ^ n == v)
some-equal w zero v =
    let e : w / 2 ^ 0 ≡ w = omega arith in
    elim (cases_eq v w) [
      | inl h ↦ eq-eqb v w h ∙ sym (eq-eqb (w / 2 ^ 0) v (omega arith))
      | inr h ↦ ne_eqb v w h ∙ sym (ne_eqb (w / 2 ^ 0) v (λ k. h (omega arith)))
    ]
some-equal w (suc n) v =
    let one : suc n ≡ n + 1 = omega arith in
    let two : w / 2 ^ suc n ≡ w / 2 ^ n / 2 = ap (λ (k : ℕ). w / 2 ^ k) one ∙ sym (shr-shr w n 1) in
    rw (some-equal w n (2 * v), some-equal w n (2 * v + 1))
    (or_same (w / 2 ^ n == 2 * v) (w / 2 ^ n == 2 * v + 1) (w / 2 ^ suc n == v)
    (λ a. eq-eqb (w / 2 ^ suc n) v (let k : w / 2 ^ n ≡ 2 * v = eqb-true _ _ a in omega arith))
    (λ b. eq-eqb (w / 2 ^ suc n) v (let k : w / 2 ^ n ≡ 2 * v + 1 = eqb-true _ _ b in omega arith))
    (λ a b. ne_eqb (w / 2 ^ suc n) v (λ k.
    let not_a : w / 2 ^ n ≡ 2 * v → ⊥ = eqb-false _ _ a in
    let not_b : w / 2 ^ n ≡ 2 * v + 1 → ⊥ = eqb-false _ _ b in
    omega arith)))

pub some-below : (limit n v : ℕ) → some n (λ x. ltb x limit) v ≡ ltb (v * 2 ^ n) limit
some-below limit zero v = let e : v * 2 ^ 0 ≡ v = omega arith in rw e refl
some-below limit (suc n) v =
    let two : v * 2 ^ suc n ≡ 2 * v * 2 ^ n = rw pow-suc (omega arith) in
    let more : (2 * v + 1) * 2 ^ n ≡ 2 * v * 2 ^ n + 2 ^ n = omega arith in
    rw (some-below limit n (2 * v), some-below limit n (2 * v + 1), two)
    (or_same (ltb (2 * v * 2 ^ n) limit) (ltb ((2 * v + 1) * 2 ^ n) limit) (ltb (2 * v * 2 ^ n) limit)
    (λ a. a)
    (λ b. lt-ltb _ _ (let k : (2 * v + 1) * 2 ^ n < limit = ltb-true _ _ b in omega arith))
    (λ a b. a))
