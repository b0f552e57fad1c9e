-- Laws of what is written and read, and of the sums.
use Rattle.std.proofs.Common.{◌≡◌, ℕ, zero, suc, ◌+◌, ◌*◌, ◌/◌, ◌%◌, ◌^◌, ◌<◌, ◌≤◌, Bool, false, cond, List, [], ◌∷◌, ◌++◌, length, take, refl, sym, ap, subst, ◌∙◌, append_assoc, inl, inr, arith, bit_xor, length-append}
use Rattle.std.specs.Prelude.{replicate}
use Rattle.std.specs.Int.Bits.{xor_self}
use Rattle.std.proofs.Math.Nat.{mod-eq_of_lt, pow-le-pow_right}
use Rattle.std.proofs.lemmas.Nat.{pow_pos}
use Rattle.std.proofs.lemmas.Bool.{lt-ltb, le-ltb, cases_lt}
use Rattle.std.proofs.lemmas.List.{take_at, drop_at}
use Rattle.ff_bits.specs.Bits.{value_of, bits_of, bits}
use Rattle.ff_bits.specs.Number.{IsCode, code_with, capacity, fewest, shortest, first_byte, further_bytes}
use Rattle.ff_bits.specs.Crc.{remainder_from, crc8_of, crc16_of}
use Rattle.ff_bits.specs.laws.Pieces.{Piece, Field, Coded, value_in, values_in, IsWritable, AreWritable, written_piece, written_pieces, IsRead, AreRead}
use Rattle.ff_bits.proofs.BitsLemmas.{length-bits_of, bits-append, bits-one}
use Rattle.ff_bits.proofs.Words.{value_of-bits_of}
use Rattle.ff_bits.proofs.BitsOf.{bits_of-zeros, bits_of-parts}
use Rattle.ff_bits.proofs.NumberApart.{one_number}
use Rattle.ff_bits.proofs.NumberReads.{code_below}
use Rattle.ff_bits.proofs.FirstByte.{length-first_byte}
use Rattle.ff_bits.proofs.CrcLemmas.{remainder_from-append}
use Rattle.ff_bits.proofs.Slices.{absorbed, remainder_below}

-- ---- the shortest

pub record IsFewest (v k : ℕ) : Type 0 where
  pub few : k ≤ 6
  pub room : v < 2 ^ capacity k
  pub least : (j : ℕ) → v < 2 ^ capacity j → k ≤ j

least_than : (k v : ℕ) → 2 ^ capacity k ≤ v → (j : ℕ) → v < 2 ^ capacity j → k < j
least_than k v h j l = elim (cases_lt k j) [
  | inl lt ↦ lt
  | inr ge ↦
      let two : 0 < 2 = omega arith in
      let p : 2 ^ capacity j ≤ 2 ^ capacity k = pow-le-pow_right two (capacity_le j k ge) in
      absurd (omega arith)
]
  where
    capacity_le : (j k : ℕ) → j ≤ k → capacity j ≤ capacity k
    capacity_le zero zero h = omega arith
    capacity_le zero (suc k) h = omega arith
    capacity_le (suc j) zero h = absurd (omega arith)
    capacity_le (suc j) (suc k) h = omega arith

pub fewest_is : (v : ℕ) → v < 2 ^ 36 → IsFewest v (fewest v)
fewest_is v top = elim (cases_lt v (2 ^ 7)) [
  | inl l ↦ rw (lt-ltb v (2 ^ 7) l) (record { few = omega arith; room = l; least = λ j h. omega arith })
  | inr a ↦ elim (cases_lt v (2 ^ 11)) [
    | inl l ↦ rw (le-ltb v (2 ^ 7) a, lt-ltb v (2 ^ 11) l) (record { few = omega arith; room = l; least = λ j h. (let m : 0 < j = least_than 0 v a j h in omega arith) })
    | inr b ↦ elim (cases_lt v (2 ^ 16)) [
      | inl l ↦ rw (le-ltb v (2 ^ 7) a, le-ltb v (2 ^ 11) b, lt-ltb v (2 ^ 16) l) (record { few = omega arith; room = l; least = λ j h. (let m : 1 < j = least_than 1 v b j h in omega arith) })
      | inr c ↦ elim (cases_lt v (2 ^ 21)) [
        | inl l ↦ rw (le-ltb v (2 ^ 7) a, le-ltb v (2 ^ 11) b, le-ltb v (2 ^ 16) c, lt-ltb v (2 ^ 21) l) (record { few = omega arith; room = l; least = λ j h. (let m : 2 < j = least_than 2 v c j h in omega arith) })
        | inr d ↦ elim (cases_lt v (2 ^ 26)) [
          | inl l ↦ rw (le-ltb v (2 ^ 7) a, le-ltb v (2 ^ 11) b, le-ltb v (2 ^ 16) c, le-ltb v (2 ^ 21) d, lt-ltb v (2 ^ 26) l) (record { few = omega arith; room = l; least = λ j h. (let m : 3 < j = least_than 3 v d j h in omega arith) })
          | inr e ↦ elim (cases_lt v (2 ^ 31)) [
            | inl l ↦ rw (le-ltb v (2 ^ 7) a, le-ltb v (2 ^ 11) b, le-ltb v (2 ^ 16) c, le-ltb v (2 ^ 21) d, le-ltb v (2 ^ 26) e, lt-ltb v (2 ^ 31) l) (record { few = omega arith; room = l; least = λ j h. (let m : 4 < j = least_than 4 v e j h in omega arith) })
            | inr f ↦ rw (le-ltb v (2 ^ 7) a, le-ltb v (2 ^ 11) b, le-ltb v (2 ^ 16) c, le-ltb v (2 ^ 21) d, le-ltb v (2 ^ 26) e, le-ltb v (2 ^ 31) f) (record { few = omega arith; room = top; least = λ j h. (let m : 5 < j = least_than 5 v f j h in omega arith) })
          ]
        ]
      ]
    ]
  ]
]

pub shortest_is_code : (v : ℕ) → v < 2 ^ 36 → IsCode (shortest v) v
unfolding shortest
shortest_is_code v h = let f = fewest_is v h in (fewest v, f.few, f.room, refl)

length-further_bytes : (k v : ℕ) → length (further_bytes k v) ≡ 8 * k
unfolding further_bytes
length-further_bytes zero v = refl
length-further_bytes (suc k) v =
    let l : length (bits_of 6 (v / 2 ^ (6 * k)) ++ further_bytes k v) ≡ 6 + 8 * k = length-append (bits_of 6 (v / 2 ^ (6 * k))) (further_bytes k v) ∙ omega (arith, length-bits_of 6 (v / 2 ^ (6 * k)), length-further_bytes k v) in
    omega arith

length-code_with : (k v : ℕ) → k ≤ 6 → length (code_with k v) ≡ 8 + 8 * k
length-code_with k v h = length-append (first_byte k v) (further_bytes k v) ∙ omega (arith, length-first_byte k v h, length-further_bytes k v)

pub shortest_is_least : (v : ℕ) (code : List Bool) → IsCode code v → length (shortest v) ≤ length code
unfolding shortest
shortest_is_least v code h =
    let f = fewest_is v (code_below code v h) in
    let few = f.few in
    let le = f.least h.0 h.2 in
    omega (arith, length-code_with (fewest v) v few, ap length h.3, length-code_with h.0 v h.1)

-- ---- sums

zeros_leave_nothing : (divisor k n : ℕ) → remainder_from divisor k 0 (replicate n false) ≡ 0
zeros_leave_nothing divisor k zero = refl
zeros_leave_nothing divisor k (suc n) =
    ap (λ (b : Bool). remainder_from divisor k (cond b 0 (bit_xor 0 divisor)) (replicate n false)) (lt-ltb 0 (2 ^ k) (pow_pos k)) ∙ zeros_leave_nothing divisor k n

sum_behind : (divisor k : ℕ) → 2 ^ k ≤ divisor → divisor < 2 ^ (k + 1) → (message : List Bool) → remainder_from divisor k 0 (message ++ bits_of k (remainder_from divisor k 0 message)) ≡ 0
sum_behind divisor k at_least below message =
    let r : ℕ = remainder_from divisor k 0 message in
    let small : r < 2 ^ k = remainder_below divisor k at_least below message 0 (pow_pos k) in
    let value : value_of (bits_of k r) ≡ r = value_of-bits_of k r ∙ mod-eq_of_lt small in
    let value_small : value_of (bits_of k r) < 2 ^ k = omega arith in
    remainder_from-append divisor k 0 message (bits_of k r)
    ∙ absorbed divisor k at_least below (bits_of k r) r small (length-bits_of k r) value_small
    ∙ ap (λ (x : ℕ). remainder_from divisor k 0 (bits_of k (bit_xor r x))) value ∙ ap (λ (x : ℕ). remainder_from divisor k 0 (bits_of k x)) (xor_self r) ∙ ap (remainder_from divisor k 0) (bits_of-zeros k) ∙ zeros_leave_nothing divisor k k

pub crc8_behind : (bytes : List ℕ) → crc8_of (bits (bytes ++ crc8_of (bits bytes) ∷ [])) ≡ 0
unfolding crc8_of
crc8_behind bytes =
    let r : ℕ = remainder_from 0x107 8 0 (bits bytes) in
    ap (remainder_from 0x107 8 0) (bits-append bytes (r ∷ []) ∙ ap (λ (xs : List Bool). bits bytes ++ xs) (bits-one r)) ∙ sum_behind 0x107 8 (omega arith) (omega arith) (bits bytes)

pub crc16_behind : (bytes : List ℕ) → crc16_of (bits (bytes ++ crc16_of (bits bytes) / 256 ∷ crc16_of (bits bytes) % 256 ∷ [])) ≡ 0
unfolding crc16_of
crc16_behind bytes =
    let r : ℕ = remainder_from 0x18005 16 0 (bits bytes) in
    let two : bits (r / 256 ∷ r % 256 ∷ []) ≡ bits_of 16 r = bits-append (r / 256 ∷ []) (r % 256 ∷ []) ∙ ap (λ (xs : List Bool). xs ++ bits (r % 256 ∷ [])) (bits-one (r / 256)) ∙ ap (λ (xs : List Bool). bits_of 8 (r / 256) ++ xs) (bits-one (r % 256)) ∙ sym (bits_of-parts 8 8 r) in
    ap (remainder_from 0x18005 16 0) (bits-append bytes (r / 256 ∷ r % 256 ∷ []) ∙ ap (λ (xs : List Bool). bits bytes ++ xs) two) ∙ sum_behind 0x18005 16 (omega arith) (omega arith) (bits bytes)

-- ---- reading back

reads_piece : (p : Piece) (after : List Bool) → IsWritable p → IsRead p (written_piece p ++ after) (value_in p) after
reads_piece (Field n v) after h =
    let l = length-bits_of n v in
    let t : take n (bits_of n v ++ after) ≡ bits_of n v = take_at (bits_of n v) after n l in
    record {
      enough = omega (arith, length-append (bits_of n v) after);
      value = sym (ap value_of t ∙ value_of-bits_of n v ∙ mod-eq_of_lt h);
      left = sym (drop_at (bits_of n v) after n l);
    }
reads_piece (Coded v) after h = (shortest v, shortest_is_code v h, refl)

only_piece : (p : Piece) (after left : List Bool) (v : ℕ) → IsWritable p → IsRead p (written_piece p ++ after) v left → (v ≡ value_in p) × (left ≡ after)
only_piece (Field n x) after left v h r =
    let l = length-bits_of n x in
    let t : take n (bits_of n x ++ after) ≡ bits_of n x = take_at (bits_of n x) after n l in
    (r.value ∙ ap value_of t ∙ value_of-bits_of n x ∙ mod-eq_of_lt h, r.left ∙ drop_at (bits_of n x) after n l)
only_piece (Coded x) after left v h r = one_number (shortest x ++ after) left after v x r (shortest x, shortest_is_code x h, refl)

pub reads_pieces : (pieces : List Piece) (after : List Bool) → AreWritable pieces → AreRead pieces (written_pieces pieces ++ after) (values_in pieces) after
reads_pieces [] after h = refl
reads_pieces (p ∷ pieces) after h =
    let more : List Bool = written_pieces pieces ++ after in
    (more, subst (λ (xs : List Bool). IsRead p xs (value_in p) more) (sym (append_assoc (written_piece p) (written_pieces pieces) after)) (reads_piece p more h.0), reads_pieces pieces after h.1)

pub only_pieces : (pieces : List Piece) (after rest : List Bool) (values : List ℕ) → AreWritable pieces → AreRead pieces (written_pieces pieces ++ after) values rest → (values ≡ values_in pieces) × (rest ≡ after)
only_pieces [] after rest [] h r = (refl, r)
only_pieces [] after rest (v ∷ values) h r = absurd r
only_pieces (p ∷ pieces) after rest [] h r = absurd r
only_pieces (p ∷ pieces) after rest (v ∷ values) h r =
    let more : List Bool = written_pieces pieces ++ after in
    let one = only_piece p more r.0 v h.0 (subst (λ (xs : List Bool). IsRead p xs v r.0) (append_assoc (written_piece p) (written_pieces pieces) after) r.1) in
    let others = only_pieces pieces after rest values h.1 (subst (λ (xs : List Bool). AreRead pieces xs values rest) one.1 r.2) in
    (ap (λ (x : ℕ). x ∷ values) one.0 ∙ ap (λ (xs : List ℕ). value_in p ∷ xs) others.0, others.1)
