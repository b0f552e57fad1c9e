-- What the word at a reader's place says of the bits that are left.
use Rattle.std.proofs.Common.{◌≡◌, ℕ, ◌+◌, ◌-◌, ◌*◌, ◌/◌, ◌%◌, ◌^◌, ◌<◌, ◌≤◌, Bool, List, [], ◌∷◌, ◌++◌, length, take, drop, get_or, refl, sym, ap, ◌∙◌, inl, inr, arith, length-append, length-drop, bit_or}
use Rattle.std.specs.Prelude.{replicate}
use Rattle.std.proofs.Math.Nat.{pow-le-pow_right, mod-eq_of_lt}
use Rattle.std.proofs.Math.Seq.{take-add}
use Rattle.std.proofs.lemmas.Nat.{or_shifted, shl_whole, pow-add, mul-add-lt}
use Rattle.std.proofs.lemmas.Bool.{cases_lt}
use Rattle.std.proofs.lemmas.List.{length-take, length-replicate, take-append-le, drop-append-le, take_more, drop-drop, get_or_append_left, get_or-append_right, get_or-replicate, get_or_past}
use Rattle.ff_bits.specs.Bits.{value_of, bits_of, bits}
use Rattle.ff_bits.specs.laws.Reads.{IsTaken}
use Rattle.ff_bits.proofs.BitsLemmas.{value_below, length-bits, length-bits_of, bits-append, bits-one}
use Rattle.ff_bits.proofs.Words.{value_of-append, value_of-bits_of, word_window}

abbrev pub eight_zeros : List ℕ
eight_zeros = replicate 8 0

-- n bits of the word, `used` bits in
pub peek : (used n word : ℕ) (bytes : List ℕ) → used + n ≤ 64 → used + n ≤ 8 * length bytes → word ≡ value_of (bits (take 8 (bytes ++ replicate 8 0)))
    → word / 2 ^ (64 - (used + n)) % 2 ^ n ≡ value_of (take n (drop used (bits bytes)))
peek used n word bytes h there w =
    let more : List ℕ = eight_zeros in
    let long : 8 ≤ length (bytes ++ more) = omega (arith, length-append bytes more, length-replicate {A = ℕ} 8 0) in
    let front : used ≤ length (bits bytes) = omega (arith, length-bits bytes) in
    let back : n ≤ length (drop used (bits bytes)) = omega (arith, length-bits bytes, length-drop used (bits bytes)) in
    word_window used n word (bytes ++ more) long h w
    ∙ ap (λ (m : List Bool). value_of (take n (drop used m))) (bits-append bytes more)
    ∙ ap (λ (m : List Bool). value_of (take n m)) (drop-append-le used (bits bytes) (bits more) front)
    ∙ ap value_of (take-append-le n (drop used (bits bytes)) (bits more) back)

-- one byte more of the word
pub byte_more : (bytes : List ℕ) (i : ℕ) → i < 8 → get_or bytes i 0 < 256
    → value_of (bits (take (i + 1) (bytes ++ replicate 8 0))) ≡ value_of (bits (take i (bytes ++ replicate 8 0))) * 256 + get_or bytes i 0
byte_more bytes i h fits =
    let more : List ℕ = eight_zeros in
    let xs : List ℕ = bytes ++ more in
    let long : i < length xs = omega (arith, length-append bytes more, length-replicate {A = ℕ} 8 0) in
    let same : get_or xs i 0 ≡ get_or bytes i 0 = elim (cases_lt i (length bytes)) [
      | inl lt ↦ get_or_append_left bytes more 0 i lt
      | inr ge ↦ get_or-append_right bytes more (length bytes) i 0 refl ge ∙ get_or-replicate {A = ℕ} 8 (i - length bytes) 0 0 (omega arith) ∙ sym (get_or_past bytes i 0 ge)
    ] in
    let b : ℕ = get_or bytes i 0 in
    let e : bits (take (i + 1) xs) ≡ bits (take i xs) ++ bits_of 8 b =
    ap bits (take_more xs i 0 long ∙ ap (λ (x : ℕ). take i xs ++ x ∷ []) same) ∙ bits-append (take i xs) (b ∷ []) ∙ ap (λ (m : List Bool). bits (take i xs) ++ m) (bits-one b) in
    let s = ap value_of e ∙ value_of-append (bits (take i xs)) (bits_of 8 b) ∙ ap (λ (k : ℕ). value_of (bits (take i xs)) * 2 ^ k + value_of (bits_of 8 b)) (length-bits_of 8 b) in
    let v : value_of (bits_of 8 b) ≡ b = value_of-bits_of 8 b ∙ mod-eq_of_lt fits in
    s ∙ ap (λ (x : ℕ). value_of (bits (take i xs)) * 2 ^ 8 + x) v

pub value_of-take_below : (n : ℕ) (xs : List Bool) → value_of (take n xs) < 2 ^ n
value_of-take_below n xs =
    let two : 0 < 2 = omega arith in
    let k : length (take n xs) ≤ n = omega (arith, length-take n xs) in
    let m : 2 ^ length (take n xs) ≤ 2 ^ n = pow-le-pow_right two k in
    let b = value_below (take n xs) in
    omega arith

-- the word so far leaves room for a byte
pub word_below : (i : ℕ) (xs : List ℕ) → i < 8 → value_of (bits (take i xs)) < 2 ^ 56
word_below i xs h =
    let two : 0 < 2 = omega arith in
    let k : length (bits (take i xs)) ≤ 56 = omega (arith, length-bits (take i xs), length-take i xs) in
    let m : 2 ^ length (bits (take i xs)) ≤ 2 ^ 56 = pow-le-pow_right two k in
    let b = value_below (bits (take i xs)) in
    omega arith

-- two values that were read one after the other
pub taken_twice : (a b : ℕ) (xs mid rest : List Bool) (high low : ℕ) → IsTaken a xs high mid → IsTaken b mid low rest → IsTaken (a + b) xs (high * 2 ^ b + low) rest
taken_twice a b xs mid rest high low p q =
    let front : List Bool = take a xs in
    let enough : a + b ≤ length xs = omega (arith, p.enough, q.enough, ap length p.left, length-drop a xs) in
    let lf : length front ≡ a = omega (arith, length-take a xs) in
    let lm : length (take b mid) ≡ b = omega (arith, length-take b mid, q.enough) in
    let both : take (a + b) xs ≡ front ++ take b mid = take-add a b xs ∙ ap (λ (m : List Bool). front ++ take b m) (sym p.left) in
    record {
      enough = enough;
      value = sym (ap value_of both ∙ value_of-append front (take b mid) ∙ ap (λ (k : ℕ). value_of front * 2 ^ k + value_of (take b mid)) lm ∙ ap (λ (v : ℕ). v * 2 ^ b + value_of (take b mid)) (sym p.value) ∙ ap (λ (v : ℕ). high * 2 ^ b + v) (sym q.value));
      left = q.left ∙ ap (drop b) p.left ∙ drop-drop b a xs;
    }

-- two halves of a word
pub halves : (high low a : ℕ) → high < 2 ^ a → a ≤ 32 → low < 2 ^ 32 → bit_or (high * 4294967296 % 18446744073709551616) low ≡ high * 2 ^ 32 + low
halves high low a h le l = ap (λ (x : ℕ). bit_or x low) (shl_whole high a 32 64 h (omega arith)) ∙ or_shifted high 32 low l

pub halves_below : (high low a : ℕ) → high < 2 ^ a → low < 2 ^ 32 → high * 2 ^ 32 + low < 2 ^ (a + 32)
halves_below high low a h l = let e : 2 ^ (a + 32) ≡ 2 ^ a * 2 ^ 32 = pow-add 2 a 32 in omega (arith, mul-add-lt high (2 ^ 32) low (2 ^ a) h l)
