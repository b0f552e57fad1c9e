-- A byte at a time: what is brought in at the top may be brought in early, and what doesn't reach the top passes through.
use Rattle.std.proofs.Common.{◌≡◌, ℕ, zero, suc, ◌+◌, ◌-◌, ◌*◌, ◌/◌, ◌%◌, ◌^◌, ◌<◌, ◌≤◌, Bool, true, false, cond, ltb, List, [], ◌∷◌, length, refl, sym, ap, subst, ◌∙◌, arith, bit_xor, mul_comm}
use Rattle.std.specs.Prelude.{replicate}
use Rattle.std.proofs.Math.Nat.{pow-suc, le-mul_of_pos_right, mul-lt-mul_of_pos_right}
use Rattle.std.proofs.lemmas.Nat.{pow_pos, pow-add, xor_comm, xor_block, xor_lt, mod_below, div-add-mod', shr_below}
use Rattle.std.specs.Int.Bits.{xor_assoc, xor_zero_r, xor_shifted}
use Rattle.std.proofs.lemmas.Bool.{ltb-true, ltb-false, lt-ltb, le-ltb}
use Rattle.ff_bits.specs.Bits.{digit, value_of, bits_of}
use Rattle.ff_bits.specs.Crc.{reduced, remainder_from}
use Rattle.ff_bits.proofs.BitsLemmas.{value_from-split, value_below, length-bits_of}
use Rattle.ff_bits.proofs.Words.{value_of-bits_of}
use Rattle.ff_bits.proofs.CrcLemmas.{xor_double, brought_below, reduced_below}

module _ (divisor k : ℕ) where
  -- below the top nothing changes what is reduced
  pub reduced_low : (p low : ℕ) (b : Bool) → ltb p (2 ^ k) ≡ b → p < 2 ^ (k + 1) → low < 2 ^ k → reduced divisor k (bit_xor p low) ≡ bit_xor (cond b p (bit_xor p divisor)) low
  reduced_low p low true e l h =
      let lt : p < 2 ^ k = ltb-true p (2 ^ k) e in
      let x = xor_lt k p low lt h in
      rw (lt-ltb (bit_xor p low) (2 ^ k) x) refl
  reduced_low p low false e l h =
      let le : 2 ^ k ≤ p = ltb-false p (2 ^ k) e in
      let two : 2 ^ (k + 1) ≡ 2 ^ k * 2 = pow-add 2 k 1 in
      let r : p - 2 ^ k < 2 ^ k = omega arith in
      let p-is : 1 * 2 ^ k + (p - 2 ^ k) ≡ p = omega arith in
      let low-is : 0 * 2 ^ k + low ≡ low = omega arith in
      let x = xor_block k 1 0 (p - 2 ^ k) low r h in
      let y : bit_xor p low ≡ bit_xor 1 0 * 2 ^ k + bit_xor (p - 2 ^ k) low = subst (λ (w : ℕ). bit_xor w low ≡ bit_xor 1 0 * 2 ^ k + bit_xor (p - 2 ^ k) low) p-is (subst (λ (w : ℕ). bit_xor (1 * 2 ^ k + (p - 2 ^ k)) w ≡ bit_xor 1 0 * 2 ^ k + bit_xor (p - 2 ^ k) low) low-is x) in
      let one : bit_xor 1 0 * 2 ^ k ≡ 2 ^ k = omega arith in
      let high : 2 ^ k ≤ bit_xor p low = omega arith in
      let swap : bit_xor (bit_xor p low) divisor ≡ bit_xor (bit_xor p divisor) low = xor_assoc p low divisor ∙ ap (λ (z : ℕ). bit_xor p z) (xor_comm low divisor) ∙ sym (xor_assoc p divisor low) in
      rw (le-ltb (bit_xor p low) (2 ^ k) high) swap

  -- what doesn't reach the top in n steps passes through them
  pub passes_through : (n r low : ℕ) → r < 2 ^ k → low * 2 ^ n < 2 ^ k → (at_least : 2 ^ k ≤ divisor) → (below : divisor < 2 ^ (k + 1))
      → remainder_from divisor k (bit_xor r low) (replicate n false) ≡ bit_xor (remainder_from divisor k r (replicate n false)) (low * 2 ^ n)
  passes_through zero r low h l at_least below = let e : low ≡ low * 2 ^ 0 = omega arith in ap (λ (x : ℕ). bit_xor r x) e
  passes_through (suc n) r low h l at_least below =
      let two : 2 ^ suc n ≡ 2 ^ n * 2 = pow-suc 2 n in
      let low2 : low * 2 ^ suc n ≡ 2 * low * 2 ^ n = rw two (omega arith) in
      let pn = pow_pos n in
      let small : 2 * low * 2 ^ n < 2 ^ k = omega arith in
      let m : 2 * low ≤ 2 * low * 2 ^ n = le-mul_of_pos_right (2 * low) pn in
      let small1 : 2 * low < 2 ^ k = omega arith in
      let x : ℕ = bit_xor (2 * r) 0 in
      let d : bit_xor (2 * bit_xor r low) 0 ≡ bit_xor x (2 * low) = xor_zero_r (2 * bit_xor r low) ∙ sym (xor_double r low) ∙ ap (λ (z : ℕ). bit_xor z (2 * low)) (sym (xor_zero_r (2 * r))) in
      let xl : x < 2 ^ (k + 1) = brought_below divisor k at_least below r false h in
      let red = reduced_low x (2 * low) (ltb x (2 ^ k)) refl xl small1 in
      let rl : reduced divisor k x < 2 ^ k = reduced_below divisor k at_least below x xl in
      ap (λ (z : ℕ). remainder_from divisor k (reduced divisor k z) (replicate n false)) d ∙ ap (λ (z : ℕ). remainder_from divisor k z (replicate n false)) red
      ∙ passes_through n (reduced divisor k x) (2 * low) rl small at_least below ∙ ap (λ (z : ℕ). bit_xor (remainder_from divisor k (reduced divisor k x) (replicate n false)) z) (sym low2)

  -- the digits may all be brought in at once
  pub brought_early : (xs : List Bool) (r : ℕ) → r < 2 ^ k → length xs ≤ k → (at_least : 2 ^ k ≤ divisor) → (below : divisor < 2 ^ (k + 1))
      → remainder_from divisor k r xs ≡ remainder_from divisor k (bit_xor r (value_of xs * 2 ^ (k - length xs))) (replicate (length xs) false)
  brought_early [] r h l at_least below =
      let z : 0 ≡ 0 * 2 ^ (k - 0) = omega arith in
      sym (xor_zero_r r) ∙ ap (λ (w : ℕ). bit_xor r w) z
  brought_early (b ∷ ys) r h l at_least below =
      let m : ℕ = length ys in
      let w : ℕ = value_of ys * 2 ^ (k - m) in
      let v : ℕ = value_of (b ∷ ys) * 2 ^ (k - suc m) in
      let x : ℕ = bit_xor (2 * r) (cond b (2 ^ k) 0) in
      let xl : x < 2 ^ (k + 1) = brought_below divisor k at_least below r b h in
      let rl : reduced divisor k x < 2 ^ k = reduced_below divisor k at_least below x xl in
      let whole : 2 ^ m * 2 ^ (k - m) ≡ 2 ^ k = sym (pow-add 2 m (k - m)) ∙ ap (λ (j : ℕ). 2 ^ j) (let e : m + (k - m) ≡ k = omega arith in e) in
      let wl : w < 2 ^ k = subst (λ (y : ℕ). w < y) whole (mul-lt-mul_of_pos_right (value_below ys) (pow_pos (k - m))) in
      let split : value_of (b ∷ ys) ≡ digit b * 2 ^ m + value_of ys = value_from-split (2 * 0 + digit b) ys ∙ (let e : (2 * 0 + digit b) * 2 ^ m + value_of ys ≡ digit b * 2 ^ m + value_of ys = ap (λ (y : ℕ). y * 2 ^ m + value_of ys) (let f : 2 * 0 + digit b ≡ digit b = omega arith in f) in e) in
      let next : k - m ≡ suc (k - suc m) = omega arith in
      let two : 2 ^ (k - m) ≡ 2 ^ (k - suc m) * 2 = ap (λ (j : ℕ). 2 ^ j) next ∙ pow-suc 2 (k - suc m) in
      let v2 : 2 * v ≡ value_of (b ∷ ys) * 2 ^ (k - m) = rw two (omega arith) in
      let sum : 2 * v ≡ digit b * 2 ^ k + w = v2 ∙ ap (λ (y : ℕ). y * 2 ^ (k - m)) split ∙ (let e : (digit b * 2 ^ m + value_of ys) * 2 ^ (k - m) ≡ digit b * (2 ^ m * 2 ^ (k - m)) + value_of ys * 2 ^ (k - m) = omega arith in e) ∙ ap (λ (y : ℕ). digit b * y + w) whole in
      let top : bit_xor (cond b (2 ^ k) 0) w ≡ digit b * 2 ^ k + w = ap (λ (y : ℕ). bit_xor y w) (sym (digit_top b)) ∙ xor_shifted (digit b) k w wl in
      let same : bit_xor (2 * bit_xor r v) 0 ≡ bit_xor x w =
      xor_zero_r (2 * bit_xor r v) ∙ sym (xor_double r v) ∙ ap (λ (y : ℕ). bit_xor (2 * r) y) (sum ∙ sym top) ∙ sym (xor_assoc (2 * r) (cond b (2 ^ k) 0) w) in
      brought_early ys (reduced divisor k x) rl (omega arith) at_least below
      ∙ ap (λ (y : ℕ). remainder_from divisor k y (replicate m false)) (sym (reduced_low x w (ltb x (2 ^ k)) refl xl wl))
      ∙ ap (λ (y : ℕ). remainder_from divisor k (reduced divisor k y) (replicate m false)) (sym same)
    where
      digit_top : (b : Bool) → digit b * 2 ^ k ≡ cond b (2 ^ k) 0
      digit_top true = omega arith
      digit_top false = omega arith

  -- a byte at a time, by a table of what each byte at the top leaves
  pub by_table : (r byte : ℕ) → 8 ≤ k → r < 2 ^ k → byte < 256 → (at_least : 2 ^ k ≤ divisor) → (below : divisor < 2 ^ (k + 1))
      → remainder_from divisor k r (bits_of 8 byte) ≡ bit_xor (remainder_from divisor k (bit_xor (r / 2 ^ (k - 8)) byte * 2 ^ (k - 8)) (replicate 8 false)) (r % 2 ^ (k - 8) * 2 ^ 8)
  by_table r byte le h hb at_least below =
      let j : ℕ = k - 8 in
      let hi : ℕ = r / 2 ^ j in
      let lo : ℕ = r % 2 ^ j in
      let pj = pow_pos j in
      let lol : lo < 2 ^ j = mod_below r (2 ^ j) pj in
      let whole : 2 ^ j * 2 ^ 8 ≡ 2 ^ k = sym (pow-add 2 j 8) ∙ ap (λ (i : ℕ). 2 ^ i) (let e : j + 8 ≡ k = omega arith in e) in
      let len = length-bits_of 8 byte in
      let nb : value_of (bits_of 8 byte) ≡ byte = value_of-bits_of 8 byte ∙ (let e : byte % 2 ^ 8 ≡ byte = omega arith in e) in
      let early = brought_early (bits_of 8 byte) r h (omega arith) at_least below in
      let r-is : hi * 2 ^ j + lo ≡ r = div-add-mod' r (2 ^ j) in
      let blk = xor_block j hi byte lo 0 lol pj in
      let zero_is : byte * 2 ^ j + 0 ≡ byte * 2 ^ j = omega arith in
      let both : bit_xor r (byte * 2 ^ j) ≡ bit_xor hi byte * 2 ^ j + lo =
      subst (λ (y : ℕ). bit_xor y (byte * 2 ^ j) ≡ bit_xor hi byte * 2 ^ j + lo) r-is (subst (λ (y : ℕ). bit_xor (hi * 2 ^ j + lo) y ≡ bit_xor hi byte * 2 ^ j + lo) zero_is (blk ∙ ap (λ (y : ℕ). bit_xor hi byte * 2 ^ j + y) (xor_zero_r lo))) in
      let apart : bit_xor r (byte * 2 ^ j) ≡ bit_xor (bit_xor hi byte * 2 ^ j) lo = both ∙ sym (xor_shifted (bit_xor hi byte) j lo lol) in
      let hil : hi < 2 ^ 8 = shr_below r 8 j (subst (λ (y : ℕ). r < y) (sym whole ∙ mul_comm (2 ^ j) (2 ^ 8) ∙ sym (pow-add 2 8 j)) h) in
      let tl : bit_xor hi byte < 2 ^ 8 = xor_lt 8 hi byte hil hb in
      let topl : bit_xor hi byte * 2 ^ j < 2 ^ k = subst (λ (y : ℕ). bit_xor hi byte * 2 ^ j < y) (mul_comm (2 ^ 8) (2 ^ j) ∙ whole) (mul-lt-mul_of_pos_right tl pj) in
      let lowl : lo * 2 ^ 8 < 2 ^ k = subst (λ (y : ℕ). lo * 2 ^ 8 < y) whole (mul-lt-mul_of_pos_right lol (pow_pos 8)) in
      early ∙ ap (λ (y : ℕ). remainder_from divisor k (bit_xor r (value_of (bits_of 8 byte) * 2 ^ (k - y))) (replicate y false)) len
      ∙ ap (λ (y : ℕ). remainder_from divisor k (bit_xor r (y * 2 ^ j)) (replicate 8 false)) nb
      ∙ ap (λ (y : ℕ). remainder_from divisor k y (replicate 8 false)) apart
      ∙ passes_through 8 (bit_xor hi byte * 2 ^ j) lo topl lowl at_least below

pub low_is : (sum j : ℕ) → sum < 65536 → (sum - (sum / 2 ^ j * 2 ^ j) % 4294967296) * 256 % 4294967296 ≡ sum % 2 ^ j * 2 ^ 8
low_is sum j h = let d = div-add-mod' sum (2 ^ j) in omega arith

pub top_is : (sum k byte : ℕ) → 8 ≤ k → sum < 2 ^ k → byte < 256 → bit_xor (sum / 2 ^ (k - 8)) byte < 256
top_is sum k byte le h hb =
    let e : 8 + (k - 8) ≡ k = omega arith in
    let hi : sum / 2 ^ (k - 8) < 2 ^ 8 = shr_below sum 8 (k - 8) (subst (λ (y : ℕ). sum < 2 ^ y) (sym e) h) in
    xor_lt 8 (sum / 2 ^ (k - 8)) byte hi hb
