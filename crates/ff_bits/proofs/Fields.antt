-- A field that is there whole, and one that is there in part.
use Rattle.std.proofs.Common.{◌≡◌, ℕ, zero, suc, ◌+◌, ◌-◌, ◌*◌, ◌<◌, ◌≤◌, Bool, cond, List, [], ◌∷◌, length, take, drop, refl, arith}
use Rattle.ff_bits.specs.Bits.{digit, value_from}
use Rattle.ff_bits.specs.Reading.{Done, More, Bad, some, field_from}

pub field-whole : (n : ℕ) (p : ℕ → Bool) (v : ℕ) (bits : List Bool) → n ≤ length bits
    → field_from n p v bits ≡ cond (p (value_from v (take n bits))) (Done (value_from v (take n bits)) (drop n bits)) Bad
field-whole zero p v bits h = refl
field-whole (suc n) p v [] h = absurd (omega arith)
field-whole (suc n) p v (b ∷ bits) h = field-whole n p (2 * v + digit b) bits (omega arith)

pub field-part : (n : ℕ) (p : ℕ → Bool) (v : ℕ) (bits : List Bool) → length bits < n
    → field_from n p v bits ≡ cond (some (n - length bits) p (value_from v bits)) More Bad
field-part zero p v bits h = absurd (omega arith)
field-part (suc n) p v [] h = let e : suc n - 0 ≡ suc n = omega arith in rw e refl
field-part (suc n) p v (b ∷ bits) h =
    let e : suc n - suc (length bits) ≡ n - length bits = omega arith in
    rw e (field-part n p (2 * v + digit b) bits (omega arith))
