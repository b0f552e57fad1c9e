-- The remainder that is made digit by digit is the remainder.
use Rattle.std.proofs.Common.{◌≡◌, ℕ, ◌+◌, ◌-◌, ◌*◌, ◌^◌, ◌<◌, ◌≤◌, Bool, true, false, cond, ltb, List, [], ◌∷◌, ◌++◌, refl, sym, ap, subst, ◌∙◌, arith, bit_xor, mul_comm}
use Rattle.std.proofs.lemmas.Nat.{pow_pos, pow-add, xor_comm, xor_block, xor_lt}
use Rattle.std.specs.Int.Bits.{xor_assoc, xor_self, xor_zero_r, xor_shifted}
use Rattle.std.proofs.lemmas.Bool.{ltb-true, ltb-false, cond_both}
use Rattle.ff_bits.specs.Bits.{digit, value_from}
use Rattle.ff_bits.specs.Crc.{product_from, IsRemainder, reduced, remainder_from, crc8_of, crc16_of}

double : (a : ℕ) → 2 * a ≡ a * 2 ^ 1 + 0
double a = omega arith

pub xor_double : (a b : ℕ) → bit_xor (2 * a) (2 * b) ≡ 2 * bit_xor a b
xor_double a b =
    let h : 0 < 2 ^ 1 = pow_pos 1 in
    let e = xor_block 1 a b 0 0 h h in
    rw (double a, double b) (e ∙ sym (double (bit_xor a b)))

-- a one where there is a zero
xor_one : (a k : ℕ) → bit_xor (2 * a * 2 ^ k) (2 ^ k) ≡ (2 * a + 1) * 2 ^ k
xor_one a k =
    let h : 0 < 2 ^ k = pow_pos k in
    let e = xor_block k (2 * a) 1 0 0 h h in
    let one : 1 < 2 ^ 1 = omega arith in
    let f = xor_shifted a 1 1 one in
    let g : bit_xor (2 * a) 1 ≡ 2 * a + 1 = subst (λ (x : ℕ). bit_xor x 1 ≡ x + 1) (mul_comm a (2 ^ 1)) f in
    let m : 2 * a * 2 ^ k + 0 ≡ 2 * a * 2 ^ k = omega arith in
    let n : 1 * 2 ^ k + 0 ≡ 2 ^ k = omega arith in
    let o : bit_xor (2 * a) 1 * 2 ^ k + bit_xor 0 0 ≡ (2 * a + 1) * 2 ^ k = rw g (omega arith) in
    subst (λ (x : ℕ). bit_xor x (2 ^ k) ≡ (2 * a + 1) * 2 ^ k) m (subst (λ (x : ℕ). bit_xor (2 * a * 2 ^ k + 0) x ≡ (2 * a + 1) * 2 ^ k) n (e ∙ o))

module _ (divisor k : ℕ) (at_least : 2 ^ k ≤ divisor) (below : divisor < 2 ^ (k + 1)) where
  -- where both have degree k
  pub cancels : (p : ℕ) → 2 ^ k ≤ p → p < 2 ^ (k + 1) → bit_xor p divisor < 2 ^ k
  cancels p h l =
      let e : 2 ^ (k + 1) ≡ 2 ^ k * 2 = pow-add 2 k 1 in
      let r : p - 2 ^ k < 2 ^ k = omega arith in
      let s : divisor - 2 ^ k < 2 ^ k = omega arith in
      let p-is : 1 * 2 ^ k + (p - 2 ^ k) ≡ p = omega arith in
      let d-is : 1 * 2 ^ k + (divisor - 2 ^ k) ≡ divisor = omega arith in
      let x = xor_block k 1 1 (p - 2 ^ k) (divisor - 2 ^ k) r s in
      let lt = xor_lt k (p - 2 ^ k) (divisor - 2 ^ k) r s in
      let y : bit_xor p divisor ≡ bit_xor 1 1 * 2 ^ k + bit_xor (p - 2 ^ k) (divisor - 2 ^ k) = subst (λ (w : ℕ). bit_xor w divisor ≡ bit_xor 1 1 * 2 ^ k + bit_xor (p - 2 ^ k) (divisor - 2 ^ k)) p-is (subst (λ (w : ℕ). bit_xor (1 * 2 ^ k + (p - 2 ^ k)) w ≡ bit_xor 1 1 * 2 ^ k + bit_xor (p - 2 ^ k) (divisor - 2 ^ k)) d-is x) in
      let z : bit_xor 1 1 * 2 ^ k ≡ 0 = omega arith in
      rw (y, z) (omega (arith, lt))

  -- the next digit of the message
  brought : (p r before : ℕ) (b : Bool) → before * 2 ^ k ≡ bit_xor p r → (2 * before + digit b) * 2 ^ k ≡ bit_xor (2 * p) (bit_xor (2 * r) (cond b (2 ^ k) 0))
  brought p r before false e =
      let d : (2 * before + 0) * 2 ^ k ≡ 2 * (before * 2 ^ k) = omega arith in
      d ∙ ap (λ (x : ℕ). 2 * x) e ∙ sym (xor_double p r) ∙ ap (λ (x : ℕ). bit_xor (2 * p) x) (sym (xor_zero_r (2 * r)))
  brought p r before true e =
      let d : 2 * before * 2 ^ k ≡ 2 * (before * 2 ^ k) = omega arith in
      let f : 2 * before * 2 ^ k ≡ bit_xor (2 * p) (2 * r) = d ∙ ap (λ (x : ℕ). 2 * x) e ∙ sym (xor_double p r) in
      sym (xor_one before k) ∙ ap (λ (x : ℕ). bit_xor x (2 ^ k)) f ∙ xor_assoc (2 * p) (2 * r) (2 ^ k)

  pub brought_below : (r : ℕ) (b : Bool) → r < 2 ^ k → bit_xor (2 * r) (cond b (2 ^ k) 0) < 2 ^ (k + 1)
  brought_below r true h =
      let e : 2 ^ (k + 1) ≡ 2 ^ k * 2 = pow-add 2 k 1 in
      let q = pow_pos k in
      xor_lt (k + 1) (2 * r) (2 ^ k) (omega arith) (omega arith)
  brought_below r false h =
      let e : 2 ^ (k + 1) ≡ 2 ^ k * 2 = pow-add 2 k 1 in
      let q = pow_pos k in
      xor_lt (k + 1) (2 * r) 0 (omega arith) (omega arith)

  -- less the divisor, or as it is
  lessened : (p x target : ℕ) (b : Bool) → ltb x (2 ^ k) ≡ b → x < 2 ^ (k + 1) → target ≡ bit_xor p x
      → (c : Bool) × (target ≡ bit_xor (bit_xor p (cond c divisor 0)) (cond b x (bit_xor x divisor))) × (cond b x (bit_xor x divisor) < 2 ^ k)
  lessened p x target true h l e = (false, e ∙ ap (λ (y : ℕ). bit_xor y x) (sym (xor_zero_r p)), ltb-true x (2 ^ k) h)
  lessened p x target false h l e =
      let swap : bit_xor (bit_xor p divisor) (bit_xor x divisor) ≡ bit_xor p x =
      ap (λ (y : ℕ). bit_xor (bit_xor p divisor) y) (xor_comm x divisor) ∙ xor_assoc p divisor (bit_xor divisor x)
      ∙ ap (λ (y : ℕ). bit_xor p y) (sym (xor_assoc divisor divisor x) ∙ ap (λ (y : ℕ). bit_xor y x) (xor_self divisor)) in
      (true, e ∙ sym swap, cancels x (ltb-false x (2 ^ k) h) l)

  pub divides : (message : List Bool) (p before r : ℕ) → before * 2 ^ k ≡ bit_xor p r → r < 2 ^ k
      → (remainder_from divisor k r message < 2 ^ k) × (quotient : List Bool) × (value_from before message * 2 ^ k ≡ bit_xor (product_from divisor p quotient) (remainder_from divisor k r message))
  divides [] p before r e h = (h, [], e)
  divides (b ∷ message) p before r e h =
      let x : ℕ = bit_xor (2 * r) (cond b (2 ^ k) 0) in
      let t = lessened (2 * p) x ((2 * before + digit b) * 2 ^ k) (ltb x (2 ^ k)) refl (brought_below r b h) (brought p r before b e) in
      let u = divides message (bit_xor (2 * p) (cond t.0 divisor 0)) (2 * before + digit b) (reduced divisor k x) t.1 t.2 in
      (u.0, t.0 ∷ u.1, u.2)

  pub IsRemainder-remainder_from : (message : List Bool) → IsRemainder divisor k message (remainder_from divisor k 0 message)
  IsRemainder-remainder_from message = divides message 0 0 0 (omega arith) (pow_pos k)

pub IsRemainder-crc8_of : (message : List Bool) → IsRemainder 0x107 8 message (crc8_of message)
unfolding crc8_of
IsRemainder-crc8_of message = IsRemainder-remainder_from 0x107 8 (omega arith) (omega arith) message

pub IsRemainder-crc16_of : (message : List Bool) → IsRemainder 0x18005 16 message (crc16_of message)
unfolding crc16_of
IsRemainder-crc16_of message = IsRemainder-remainder_from 0x18005 16 (omega arith) (omega arith) message

pub remainder_from-append : (divisor k r : ℕ) (a b : List Bool) → remainder_from divisor k r (a ++ b) ≡ remainder_from divisor k (remainder_from divisor k r a) b
remainder_from-append divisor k r [] b = refl
remainder_from-append divisor k r (x ∷ a) b = remainder_from-append divisor k (reduced divisor k (bit_xor (2 * r) (cond x (2 ^ k) 0))) a b

pub reduced_below : (divisor k : ℕ) → 2 ^ k ≤ divisor → divisor < 2 ^ (k + 1) → (p : ℕ) → p < 2 ^ (k + 1) → reduced divisor k p < 2 ^ k
reduced_below divisor k at_least below p l =
    let P : ℕ → Type 0 = λ x. x < 2 ^ k in
    cond_both (ltb p (2 ^ k)) p (bit_xor p divisor) P (λ e. ltb-true p (2 ^ k) e) (λ e. cancels divisor k at_least below p (ltb-false p (2 ^ k) e) l)
