-- Bytes as bits.
use Rattle.std.proofs.Common.{◌≡◌, ℕ, zero, suc, ◌+◌, ◌-◌, ◌*◌, ◌/◌, ◌%◌, ◌^◌, ◌<◌, ◌≤◌, ◌==◌, Bool, true, false, List, [], ◌∷◌, ◌++◌, length, take, drop, refl, sym, ap, subst, ◌∙◌, append_assoc, arith, length-append, length-drop}
use Rattle.std.proofs.lemmas.Nat.{shr_high}
use Rattle.std.proofs.lemmas.Bool.{eq-eqb, ne_eqb, cases_eq}
use Rattle.std.proofs.Common.{inl, inr}
use Rattle.std.proofs.lemmas.List.{append-nil, nil_from_length, length-take, take-append-drop, take_at, drop_at}
use Rattle.std.proofs.Math.Nat.{pow-suc, mul-le-mul_right, pow-le-pow_right}
use Rattle.std.proofs.Common.{get_or}
use Rattle.ff_bits.specs.Bits.{digit, value_from, value_of, bits_of, bits}

pub digit_below : (b : Bool) → digit b < 2
digit_below true = omega arith
digit_below false = omega arith

pub length-bits_of : (n v : ℕ) → length (bits_of n v) ≡ n
unfolding bits_of
length-bits_of zero v = refl
length-bits_of (suc n) v = ap suc (length-bits_of n v)

pub length-bits : (bytes : List ℕ) → length (bits bytes) ≡ 8 * length bytes
unfolding bits
length-bits [] = refl
length-bits (b ∷ bytes) = length-append (bits_of 8 b) (bits bytes) ∙ (let e : length (bits_of 8 b) + length (bits bytes) ≡ 8 * suc (length bytes) = omega (arith, length-bits_of 8 b, length-bits bytes) in e)

pub bits-append : (a b : List ℕ) → bits (a ++ b) ≡ bits a ++ bits b
unfolding bits
bits-append [] b = refl
bits-append (x ∷ a) b = ap (λ (m : List Bool). bits_of 8 x ++ m) (bits-append a b) ∙ sym (append_assoc (bits_of 8 x) (bits a) (bits b))

-- how many bits are left
pub left_is : (used : ℕ) (bytes : List ℕ) → used ≤ 8 * length bytes → length (drop used (bits bytes)) + used ≡ 8 * length bytes
left_is used bytes h = omega (arith, length-drop used (bits bytes), length-bits bytes)

pub drop-bits_of : (n u v : ℕ) (after : List Bool) → u < n → drop u (bits_of n v ++ after) ≡ (v / 2 ^ (n - 1 - u) % 2 == 1) ∷ drop (suc u) (bits_of n v ++ after)
unfolding bits_of
drop-bits_of zero u v after h = absurd (omega arith)
drop-bits_of (suc n) zero v after h = let e : suc n - 1 - 0 ≡ n = omega arith in rw e refl
drop-bits_of (suc n) (suc u) v after h =
    let e : suc n - 1 - suc u ≡ n - 1 - u = omega arith in
    rw e (drop-bits_of n u v after (omega arith))

-- ---- values and their digits

pub value_from-split : (v : ℕ) (xs : List Bool) → value_from v xs ≡ v * 2 ^ length xs + value_of xs
value_from-split v [] = omega arith
value_from-split v (b ∷ xs) =
    let two : 2 ^ suc (length xs) ≡ 2 ^ length xs * 2 = pow-suc 2 (length xs) in
    let left = value_from-split (2 * v + digit b) xs in
    let right = value_from-split (2 * 0 + digit b) xs in
    left ∙ rw (two, right) (omega arith)

pub value_below : (xs : List Bool) → value_of xs < 2 ^ length xs
value_below [] = omega arith
value_below (b ∷ xs) =
    let two : 2 ^ suc (length xs) ≡ 2 ^ length xs * 2 = pow-suc 2 (length xs) in
    let right = value_from-split (2 * 0 + digit b) xs in
    let d = digit_below b in
    let m : digit b * 2 ^ length xs ≤ 1 * 2 ^ length xs = mul-le-mul_right (2 ^ length xs) (omega arith) in
    let h = value_below xs in
    rw (two, right) (omega arith)

digit_eq : (b : Bool) (v : ℕ) → ((2 * v + digit b) % 2 == 1) ≡ b
digit_eq true v = eq-eqb ((2 * v + 1) % 2) 1 (omega arith)
digit_eq false v = ne_eqb ((2 * v + 0) % 2) 1 (λ e. omega arith)

pub bits_of-value_from : (n v : ℕ) (xs : List Bool) → length xs ≡ n → bits_of n (value_from v xs) ≡ xs
unfolding bits_of
bits_of-value_from zero v [] h = refl
bits_of-value_from zero v (b ∷ xs) h = absurd cc
bits_of-value_from (suc n) v [] h = absurd cc
bits_of-value_from (suc n) v (b ∷ xs) h =
    let len : length xs ≡ n = omega arith in
    let w : ℕ = value_from (2 * v + digit b) xs in
    let split : w ≡ (2 * v + digit b) * 2 ^ n + value_of xs = value_from-split (2 * v + digit b) xs ∙ ap (λ (k : ℕ). (2 * v + digit b) * 2 ^ k + value_of xs) len in
    let low : value_of xs < 2 ^ n = subst (λ (k : ℕ). value_of xs < 2 ^ k) len (value_below xs) in
    let high : w / 2 ^ n ≡ 2 * v + digit b = ap (λ (x : ℕ). x / 2 ^ n) split ∙ shr_high (2 * v + digit b) n (value_of xs) low in
    let first : (w / 2 ^ n % 2 == 1) ≡ b = ap (λ (x : ℕ). x % 2 == 1) high ∙ digit_eq b v in
    ap (λ (c : Bool). c ∷ bits_of n w) first ∙ ap (λ (ys : List Bool). b ∷ ys) (bits_of-value_from n (2 * v + digit b) xs len)

-- ---- whole bytes

-- n bytes of these bits
pub bytes_of : ℕ → List Bool → List ℕ
bytes_of zero xs = []
bytes_of (suc n) xs = value_of (take 8 xs) ∷ bytes_of n (drop 8 xs)

pub bits-bytes_of : (n : ℕ) (xs : List Bool) → length xs ≡ 8 * n → bits (bytes_of n xs) ≡ xs
unfolding bytes_of bits
bits-bytes_of zero xs h = sym (nil_from_length xs (omega arith))
bits-bytes_of (suc n) xs h =
    let first : bits_of 8 (value_of (take 8 xs)) ≡ take 8 xs = bits_of-value_from 8 0 (take 8 xs) (omega (arith, length-take 8 xs)) in
    let rest : bits (bytes_of n (drop 8 xs)) ≡ drop 8 xs = bits-bytes_of n (drop 8 xs) (omega (arith, length-drop 8 xs)) in
    ap (λ (m : List Bool). m ++ bits (bytes_of n (drop 8 xs))) first ∙ ap (λ (m : List Bool). take 8 xs ++ m) rest ∙ take-append-drop 8 xs

pub length-bytes_of : (n : ℕ) (xs : List Bool) → length (bytes_of n xs) ≡ n
unfolding bytes_of
length-bytes_of zero xs = refl
length-bytes_of (suc n) xs = ap suc (length-bytes_of n (drop 8 xs))

pub bytes_of-below : (n : ℕ) (xs : List Bool) (i : ℕ) → get_or (bytes_of n xs) i 0 < 256
unfolding bytes_of
bytes_of-below zero xs i = omega arith
bytes_of-below (suc n) xs zero =
    let k : length (take 8 xs) ≤ 8 = omega (arith, length-take 8 xs) in
    let two : 0 < 2 = omega arith in
    let m : 2 ^ length (take 8 xs) ≤ 2 ^ 8 = pow-le-pow_right two k in
    let h = value_below (take 8 xs) in
    omega arith
bytes_of-below (suc n) xs (suc i) = bytes_of-below n (drop 8 xs) i

-- the bits after whole bytes
pub drop-bits : (n : ℕ) (bytes : List ℕ) → n ≤ length bytes → drop (8 * n) (bits bytes) ≡ bits (drop n bytes)
drop-bits n bytes h =
    let e : bits bytes ≡ bits (take n bytes) ++ bits (drop n bytes) = ap bits (sym (take-append-drop n bytes)) ∙ bits-append (take n bytes) (drop n bytes) in
    rw e (drop_at (bits (take n bytes)) (bits (drop n bytes)) (8 * n) (omega (arith, length-bits (take n bytes), length-take n bytes)))

pub take-bits : (n : ℕ) (bytes : List ℕ) → n ≤ length bytes → take (8 * n) (bits bytes) ≡ bits (take n bytes)
take-bits n bytes h =
    let e : bits bytes ≡ bits (take n bytes) ++ bits (drop n bytes) = ap bits (sym (take-append-drop n bytes)) ∙ bits-append (take n bytes) (drop n bytes) in
    rw e (take_at (bits (take n bytes)) (bits (drop n bytes)) (8 * n) (omega (arith, length-bits (take n bytes), length-take n bytes)))

pub digit_is : (w : ℕ) → digit (w % 2 == 1) ≡ w % 2 ^ 1
digit_is w =
    elim (cases_eq (w % 2) 1) [
      | inl h ↦ ap digit (eq-eqb (w % 2) 1 h) ∙ (let e : 1 ≡ w % 2 ^ 1 = omega arith in e)
      | inr h ↦ ap digit (ne_eqb (w % 2) 1 h) ∙ (let e : 0 ≡ w % 2 ^ 1 = omega arith in e)
    ]

pub bits-one : (b : ℕ) → bits (b ∷ []) ≡ bits_of 8 b
unfolding bits
bits-one b = append-nil (bits_of 8 b)

pub value_of-no_bytes : 0 ≡ value_of (bits [])
unfolding bits
value_of-no_bytes = refl
