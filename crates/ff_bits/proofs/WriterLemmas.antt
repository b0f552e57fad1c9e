-- Bits that wait in a word, and those of the bytes before them.
use Rattle.std.proofs.Common.{◌≡◌, ℕ, suc, ◌+◌, ◌-◌, ◌*◌, ◌/◌, ◌%◌, ◌^◌, ◌<◌, ◌≤◌, ◌++◌, List, [], ◌∷◌, Bool, false, length, replicate, sym, ap, ◌∙◌, append_assoc, arith}
use Rattle.std.proofs.lemmas.Nat.{pow_pos, mul-le, pow-add, shr_split, shr_below, mul-add-lt}
use Rattle.std.proofs.Math.Nat.{mod-eq_of_lt}
use Rattle.std.proofs.lemmas.List.{length-append, length-replicate, append-nil}
use Rattle.ff_bits.specs.Bits.{bits_of, bits, padding}
use Rattle.ff_bits.proofs.BitsOf.{bits_of-add, bits_of-parts, bits_of-mod, bits_of-zero, bits_of-zeros}
use Rattle.ff_bits.proofs.BitsLemmas.{length-bits_of, length-bits, bits-append, bits-one}

pub joined_below : (word count value n : ℕ) → word < 2 ^ count → value < 2 ^ n → word * 2 ^ n + value < 2 ^ (count + n)
joined_below word count value n p q = omega (arith, mul-add-lt word (2 ^ n) value (2 ^ count) p q, pow-add 2 count n)

pow_le : (i j : ℕ) → i ≤ j → 2 ^ i ≤ 2 ^ j
pow_le i j h =
    let e : i + (j - i) ≡ j = omega arith in
    omega (arith, ap (λ m. 2 ^ m) e, pow-add 2 i (j - i), mul-le (2 ^ i) 1 (2 ^ i) (2 ^ (j - i)) (omega arith) (omega (arith, pow_pos (j - i))))

pub joined_fits : (word count value n : ℕ) → word < 2 ^ count → value < 2 ^ n → count + n ≤ 64 → word * 2 ^ n < 2 ^ 64
joined_fits word count value n p q h =
    omega (arith, joined_below word count value n p q, pow_le (count + n) 64 h)

-- the high part of a value that is cut at r bits
pub high_below : (value f r n : ℕ) → value < 2 ^ n → f + r ≡ n → value / 2 ^ r < 2 ^ f
high_below value f r n h e =
    let v : value < 2 ^ (f + r) = omega (arith, h, ap (λ m. 2 ^ m) e) in shr_below value f r v

pub low_part : (value r : ℕ) → value < 2 ^ 64 → value - (value / 2 ^ r * 2 ^ r) % 2 ^ 64 ≡ value % 2 ^ r
low_part value r h =
    let s : value / 2 ^ r * 2 ^ r + value % 2 ^ r ≡ value = shr_split value r in
    let b : value / 2 ^ r * 2 ^ r < 2 ^ 64 = omega (arith, s, h) in
    let m : (value / 2 ^ r * 2 ^ r) % 2 ^ 64 ≡ value / 2 ^ r * 2 ^ r = mod-eq_of_lt b in
    omega (arith, s, m)

pub filled_bits : (word count value n f r whole low : ℕ) → count + f ≡ 64 → f + r ≡ n → value / 2 ^ r < 2 ^ f
    → whole ≡ word * 2 ^ f + value / 2 ^ r → low ≡ value % 2 ^ r
    → bits_of 64 whole ++ bits_of r low ≡ bits_of count word ++ bits_of n value
filled_bits word count value n f r whole low e64 en h w l =
    let high : ℕ = value / 2 ^ r in
    ap (λ m. bits_of 64 m ++ bits_of r low) w
    ∙ ap (λ m. bits_of m (word * 2 ^ f + high) ++ bits_of r low) (sym e64)
    ∙ ap (λ k. k ++ bits_of r low) (bits_of-add count f word high h)
    ∙ append_assoc (bits_of count word) (bits_of f high) (bits_of r low)
    ∙ ap (λ m. bits_of count word ++ (bits_of f high ++ bits_of r m)) l
    ∙ ap (λ k. bits_of count word ++ k) (sym (bits_of-parts f r value) ∙ ap (λ m. bits_of m value) en)

-- one byte more
pub flush_step : (old new : List ℕ) (left m word byte : ℕ) (end : List Bool) → left ≡ suc m → byte ≡ word / 2 ^ (8 * m) % 256 → new ≡ old ++ (byte ∷ [])
    → bits old ++ bits_of (8 * left) word ≡ end → bits new ++ bits_of (8 * m) word ≡ end
flush_step old new left m word byte end e b n h =
    let w : 8 + 8 * m ≡ 8 * left = omega (arith, e) in
    let high : ℕ = word / 2 ^ (8 * m) in
    let low : List Bool = bits_of (8 * m) word in
    ap (λ l. bits l ++ low) n
    ∙ ap (λ l. l ++ low) (bits-append old (byte ∷ []) ∙ ap (λ l. bits old ++ l) (bits-one byte))
    ∙ append_assoc (bits old) (bits_of 8 byte) low
    ∙ ap (λ k. bits old ++ (bits_of 8 k ++ low)) b
    ∙ ap (λ l. bits old ++ (l ++ low)) (sym (bits_of-mod 8 high))
    ∙ ap (λ l. bits old ++ (bits_of 8 high ++ l)) (bits_of-mod (8 * m) word)
    ∙ ap (λ l. bits old ++ l) (sym (bits_of-parts 8 (8 * m) word) ∙ ap (λ k. bits_of k word) w)
    ∙ h

pub flush_end : (bytes : List ℕ) (left word : ℕ) (end : List Bool) → left ≡ 0 → bits bytes ++ bits_of (8 * left) word ≡ end → bits bytes ≡ end
flush_end bytes left word end e h =
    let z : 8 * left ≡ 0 = omega (arith, e) in
    sym (append-nil (bits bytes)) ∙ ap (λ l. bits bytes ++ l) (sym (ap (λ k. bits_of k word) z ∙ bits_of-zero word)) ∙ h

pub length-written : (bytes : List ℕ) (count word : ℕ) → length (bits bytes ++ bits_of count word) ≡ 8 * length bytes + count
length-written bytes count word = length-append (bits bytes) (bits_of count word) ∙ omega (arith, length-bits bytes, length-bits_of count word)

pub whole_count : (bytes : List ℕ) (count word : ℕ) (now : List Bool) → bits bytes ++ bits_of count word ≡ now → length now % 8 ≡ 0 → count % 8 ≡ 0
whole_count bytes count word now e h = omega (arith, length-written bytes count word, ap length e, h)

pub pad_none : (bytes : List ℕ) (count word : ℕ) (now : List Bool) → bits bytes ++ bits_of count word ≡ now → count % 8 ≡ 0 → now ≡ now ++ replicate (padding (length now)) false
pad_none bytes count word now e h =
    let none : padding (length now) ≡ 0 = omega (arith, length-written bytes count word, ap length e, h) in
    sym (ap (λ n. now ++ replicate n false) none ∙ append-nil now)

pub pad_some : (bytes : List ℕ) (count word : ℕ) (now next : List Bool) → bits bytes ++ bits_of count word ≡ now → (count % 8 ≡ 0 → ⊥)
    → next ≡ now ++ bits_of (8 - count % 8) 0 → next ≡ now ++ replicate (padding (length now)) false
pad_some bytes count word now next e h n =
    let some_left : 8 - count % 8 ≡ padding (length now) = omega (arith, length-written bytes count word, ap length e, h) in
    n ∙ ap (λ l. now ++ l) (bits_of-zeros (8 - count % 8)) ∙ ap (λ k. now ++ replicate k false) some_left

pub padded : (now next : List Bool) → next ≡ now ++ replicate (padding (length now)) false → length next % 8 ≡ 0
padded now next e =
    omega (arith, ap length e, length-append now (replicate (padding (length now)) false), length-replicate (padding (length now)) false)

-- zeros behind zeros
zeros_on : (a b : ℕ) → bits_of a 0 ++ bits_of b 0 ≡ bits_of (a + b) 0
zeros_on a b =
    let e : 0 * 2 ^ b + 0 ≡ 0 = omega arith in
    sym (ap (bits_of (a + b)) (sym e) ∙ bits_of-add a b 0 0 (pow_pos b))

pub zeros_left : (before now waiting after : List Bool) (left : ℕ) → 64 < left → after ≡ now ++ waiting ++ bits_of 64 0 → now ++ waiting ++ bits_of left 0 ≡ before → after ++ bits_of (left - 64) 0 ≡ before
zeros_left before now waiting after left lt e h =
    let k : 64 + (left - 64) ≡ left = omega arith in
    ap (λ (xs : List Bool). xs ++ bits_of (left - 64) 0) e ∙ append_assoc (now ++ waiting) (bits_of 64 0) (bits_of (left - 64) 0)
    ∙ ap (λ (xs : List Bool). now ++ waiting ++ xs) (zeros_on 64 (left - 64)) ∙ ap (λ (n : ℕ). now ++ waiting ++ bits_of n 0) k ∙ h

-- zeros, and a value of 64 bits
pub wide : (now zeroed after : List Bool) (value n : ℕ) → 64 < n → value < 2 ^ 64 → zeroed ≡ now ++ bits_of (n - 64) 0 → after ≡ zeroed ++ bits_of 64 value → after ≡ now ++ bits_of n value
wide now zeroed after value n lt h e f =
    let k : n - 64 + 64 ≡ n = omega arith in
    let z : 0 * 2 ^ 64 + value ≡ value = omega arith in
    let both : bits_of (n - 64) 0 ++ bits_of 64 value ≡ bits_of n value = sym (ap (bits_of n) (sym z) ∙ ap (λ (m : ℕ). bits_of m (0 * 2 ^ 64 + value)) (sym k) ∙ bits_of-add (n - 64) 64 0 value h) in
    f ∙ ap (λ (xs : List Bool). xs ++ bits_of 64 value) e ∙ append_assoc now (bits_of (n - 64) 0) (bits_of 64 value) ∙ ap (λ (xs : List Bool). now ++ xs) both
