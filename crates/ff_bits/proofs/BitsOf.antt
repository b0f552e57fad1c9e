-- The bits of a value, in parts.
use Rattle.std.proofs.Common.{◌≡◌, ℕ, zero, suc, false, ◌+◌, ◌*◌, ◌/◌, ◌%◌, ◌^◌, ◌<◌, Bool, List, [], ◌++◌, length, refl, sym, ap, ◌∙◌, arith, length-append}
use Rattle.std.specs.Prelude.{replicate}
use Rattle.std.specs.Int.{bytes_high_first, byte_at, to_be_bytes, w64}
use Rattle.std.proofs.Math.Nat.{pow-suc, div-one}
use Rattle.std.proofs.lemmas.List.{length-replicate}
use Rattle.std.proofs.lemmas.Nat.{pow-add, mod-pow-add, shr_high, mod_low}
use Rattle.ff_bits.specs.Bits.{value_of, bits_of, bits}
use Rattle.ff_bits.proofs.BitsLemmas.{length-bits_of, bits_of-value_from}
use Rattle.ff_bits.proofs.Zeros.{value_of-zeros}
use Rattle.ff_bits.proofs.Words.{value_of-append, value_of-bits_of}

pub bits_of-zero : (v : ℕ) → bits_of 0 v ≡ []
unfolding bits_of
bits_of-zero v = refl

pub bits_of-value_of : (n : ℕ) (xs : List Bool) → length xs ≡ n → bits_of n (value_of xs) ≡ xs
bits_of-value_of n xs h = bits_of-value_from n 0 xs h

-- only the lowest n bits count
pub bits_of-mod : (n v : ℕ) → bits_of n v ≡ bits_of n (v % 2 ^ n)
bits_of-mod n v = sym (bits_of-value_of n (bits_of n v) (length-bits_of n v)) ∙ ap (bits_of n) (value_of-bits_of n v)

-- the high bits, and the low ones
pub bits_of-split : (a b v : ℕ) → bits_of (a + b) v ≡ bits_of a (v / 2 ^ b) ++ bits_of b v
bits_of-split a b v =
    let xs : List Bool = bits_of a (v / 2 ^ b) in
    let ys : List Bool = bits_of b v in
    let len : length (xs ++ ys) ≡ a + b = length-append xs ys ∙ omega (arith, length-bits_of a (v / 2 ^ b), length-bits_of b v) in
    let value : value_of (xs ++ ys) ≡ v % 2 ^ (a + b) =
    value_of-append xs ys ∙ ap (λ (k : ℕ). value_of xs * 2 ^ k + value_of ys) (length-bits_of b v)
    ∙ ap (λ (x : ℕ). x * 2 ^ b + value_of ys) (value_of-bits_of a (v / 2 ^ b)) ∙ ap (λ (y : ℕ). v / 2 ^ b % 2 ^ a * 2 ^ b + y) (value_of-bits_of b v) ∙ sym (mod-pow-add v a b) in
    bits_of-mod (a + b) v ∙ ap (bits_of (a + b)) (sym value) ∙ bits_of-value_of (a + b) (xs ++ ys) len

-- the bits of a value that is made of two
pub bits_of-add : (a b x y : ℕ) → y < 2 ^ b → bits_of (a + b) (x * 2 ^ b + y) ≡ bits_of a x ++ bits_of b y
bits_of-add a b x y h =
    bits_of-split a b (x * 2 ^ b + y) ∙ ap (λ (v : ℕ). bits_of a v ++ bits_of b (x * 2 ^ b + y)) (shr_high x b y h)
    ∙ ap (λ (ys : List Bool). bits_of a x ++ ys) (bits_of-mod b (x * 2 ^ b + y) ∙ ap (bits_of b) (mod_low x b y h))

pub bits_of-parts : (a b v : ℕ) → bits_of (a + b) v ≡ bits_of a (v / 2 ^ b) ++ bits_of b (v % 2 ^ b)
bits_of-parts a b v = bits_of-split a b v ∙ ap (λ (ys : List Bool). bits_of a (v / 2 ^ b) ++ ys) (bits_of-mod b v)

pub bits_of-zeros : (n : ℕ) → bits_of n 0 ≡ replicate n false
bits_of-zeros n = ap (bits_of n) (sym (value_of-zeros n)) ∙ bits_of-value_of n (replicate n false) (length-replicate n false)

-- ---- the bytes of a word

pow_bytes : (k : ℕ) → 256 ^ k ≡ 2 ^ (8 * k)
pow_bytes zero = refl
pow_bytes (suc k) =
    let e : 8 + 8 * k ≡ 8 * suc k = omega arith in
    pow-suc 256 k ∙ omega (arith, pow_bytes k, pow-add 2 8 (8 * k)) ∙ ap (λ m. 2 ^ m) e

byte_at-is : (k n : ℕ) → byte_at k n ≡ n / 2 ^ (8 * k) % 2 ^ 8
byte_at-is zero n = ap (λ m. m % 256) (sym (div-one n))
byte_at-is (suc k) n = ap (λ m. n / m % 256) (pow_bytes (suc k))

bits-bytes_high_first : (k n : ℕ) → bits (bytes_high_first k n) ≡ bits_of (8 * k) n
unfolding bits
bits-bytes_high_first zero n = sym (bits_of-zero n)
bits-bytes_high_first (suc k) n =
    let e : 8 + 8 * k ≡ 8 * suc k = omega arith in
    ap (λ l. bits_of 8 (byte_at k n) ++ l) (bits-bytes_high_first k n)
    ∙ ap (λ m. bits_of 8 m ++ bits_of (8 * k) n) (byte_at-is k n)
    ∙ ap (λ l. l ++ bits_of (8 * k) n) (sym (bits_of-mod 8 (n / 2 ^ (8 * k))))
    ∙ sym (bits_of-split 8 (8 * k) n)
    ∙ ap (λ m. bits_of m n) e

-- the eight bytes of a word are its bits
pub bits-to_be_bytes : (n : ℕ) → bits (to_be_bytes w64 n) ≡ bits_of 64 n
bits-to_be_bytes n = bits-bytes_high_first 8 n

-- nothing written
pub bits-nil : bits [] ++ bits_of 0 0 ≡ []
unfolding bits bits_of
bits-nil = refl
