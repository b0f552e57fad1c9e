-- The shortest coded number as the code makes it.
use Rattle.std.proofs.Common.{◌≡◌, ℕ, suc, ◌+◌, ◌-◌, ◌*◌, ◌/◌, ◌%◌, ◌^◌, ◌<◌, ◌≤◌, Bool, true, false, bit_and, List, ◌∷◌, ◌++◌, sym, ap, ◌∙◌, append_assoc, arith}
use Rattle.std.proofs.Math.Nat.{pow-le-pow_right}
use Rattle.std.proofs.lemmas.Nat.{pow-add, and_mask}
use Rattle.std.proofs.lemmas.List.{append-nil}
use Rattle.ff_bits.specs.Bits.{bits_of}
use Rattle.ff_bits.specs.Number.{further_bytes, code_with}
use Rattle.ff_bits.proofs.BitsOf.{bits_of-add}
use Rattle.ff_bits.proofs.NumberLemmas.{six}

pub code_goes_on : (k v i b : ℕ) (total : List Bool) → i < k → bits_of (8 * i + 8) b ++ further_bytes (k - i) v ≡ total
    → bits_of (8 * (i + 1) + 8) (b * 256 + 128 + bit_and (v / 2 ^ (6 * (k - 1 - i))) 63) ++ further_bytes (k - (i + 1)) v ≡ total
unfolding further_bytes
code_goes_on k v i b total lt e =
    let m : ℕ = k - 1 - i in
    let w : ℕ = v / 2 ^ (6 * m) in
    let x : ℕ = w % 64 in
    let now : k - i ≡ suc m = omega arith in
    let next : k - (i + 1) ≡ m = omega arith in
    let count : 8 * (i + 1) + 8 ≡ 8 * i + 8 + 8 = omega arith in
    let low : b * 256 + 128 + bit_and w 63 ≡ b * 2 ^ 8 + (128 + x) = let a : bit_and w 63 ≡ w % 2 ^ 6 = and_mask w 6 in omega arith in
    let front : List Bool = bits_of (8 * i + 8) b in
    let written : bits_of (8 * (i + 1) + 8) (b * 256 + 128 + bit_and w 63) ≡ front ++ (true ∷ false ∷ bits_of 6 w) =
    ap (λ (n : ℕ). bits_of n (b * 256 + 128 + bit_and w 63)) count ∙ ap (bits_of (8 * i + 8 + 8)) low
    ∙ bits_of-add (8 * i + 8) 8 b (128 + x) (omega arith) ∙ ap (λ (ys : List Bool). front ++ ys) (sym (six w)) in
    ap (λ (n : ℕ). bits_of (8 * (i + 1) + 8) (b * 256 + 128 + bit_and w 63) ++ further_bytes n v) next
    ∙ ap (λ (ys : List Bool). ys ++ further_bytes m v) written ∙ append_assoc front (true ∷ false ∷ bits_of 6 w) (further_bytes m v)
    ∙ sym (ap (λ (n : ℕ). front ++ further_bytes n v) now) ∙ e

pub code_within : (i b x : ℕ) → b < 2 ^ (8 * i + 8) → x < 256 → b * 256 + x < 2 ^ (8 * (i + 1) + 8)
code_within i b x h l =
    let e : 8 * (i + 1) + 8 ≡ 8 * i + 8 + 8 = omega arith in
    let p : 2 ^ (8 * (i + 1) + 8) ≡ 2 ^ (8 * i + 8) * 2 ^ 8 = ap (λ (n : ℕ). 2 ^ n) e ∙ pow-add 2 (8 * i + 8) 8 in
    omega arith

pub code_fits : (i b : ℕ) → i < 6 → b < 2 ^ (8 * i + 8) → b < 2 ^ 48
code_fits i b h l =
    let two : 0 < 2 = omega arith in
    let le : 8 * i + 8 ≤ 48 = omega arith in
    let m : 2 ^ (8 * i + 8) ≤ 2 ^ 48 = pow-le-pow_right two le in
    omega arith

pub code_is_whole : (k v i b : ℕ) → i ≡ k → bits_of (8 * i + 8) b ++ further_bytes (k - i) v ≡ code_with k v → bits_of (8 * k + 8) b ≡ code_with k v
unfolding further_bytes
code_is_whole k v i b e h =
    let z : k - i ≡ 0 = omega arith in
    ap (λ (n : ℕ). bits_of (8 * n + 8) b) (sym e) ∙ sym (append-nil (bits_of (8 * i + 8) b)) ∙ sym (ap (λ (n : ℕ). bits_of (8 * i + 8) b ++ further_bytes n v) z) ∙ h
