-- The bits of a header, and of the end of a frame.
use Rattle.std.proofs.Common.{◌≡◌, ℕ, zero, suc, ◌+◌, ◌-◌, ◌*◌, ◌/◌, ◌%◌, ◌^◌, ◌<◌, ◌≤◌, Bool, true, false, cond, eqb, leb, List, [], ◌∷◌, ◌++◌, length, refl, sym, ap, ◌∙◌, arith, length-append, append_assoc}
use Rattle.std.specs.List.{flat_map}
use Rattle.std.proofs.lemmas.Bool.{leb-true}
use Rattle.std.proofs.lemmas.List.{append-nil}
use Rattle.ff_bits.specs.Bits.{bits_of, bits}
use Rattle.ff_bits.specs.Crc.{crc8_of, crc16_of}
use Rattle.ff_bits.specs.Number.{shortest, first_byte, further_bytes}
use Rattle.ff_bits.proofs.BitsLemmas.{length-bits_of, bits-append}
use Rattle.ff_bits.proofs.BitsOf.{bits_of-parts}
use Rattle.ff_bits.proofs.LawLemmas.{shortest_is_code}
use Rattle.ff_bits.proofs.FirstByte.{length-first_byte}
use Rattle.ff_flac_frame.specs.Codes.{sync}
use Rattle.ff_flac_enc.specs.declared.head.Head.{Head}
use Rattle.ff_flac_enc.specs.Head.{block_code, block_bits_by, rate_code, depth_code, codes_bits, header_bits, closed, filled, with_sum8}

-- the code of a size that is told in one byte
picks : {P : Type 0} (t : Bool) (c other : ℕ) → (c ≡ 6 → ⊥) → (other ≡ 6 → P) → cond t c other ≡ 6 → P
picks true c other n k e = absurd (n e)
picks false c other n k e = k e

six_or_seven : Bool → ℕ
six_or_seven b = cond b 6 7

last_pick : (n : ℕ) → six_or_seven (leb n 256) ≡ 6 → n ≤ 256
unfolding six_or_seven
last_pick n = elim (leb n 256) as (λ b. leb n 256 ≡ b → six_or_seven b ≡ 6 → n ≤ 256) [
  | true ↦ λ e h. leb-true n 256 e
  | false ↦ λ e h. absurd (omega (arith, h))
] refl

pub six_small : (n : ℕ) → block_code n ≡ 6 → n ≤ 256
unfolding block_code six_or_seven
six_small n =
    picks (eqb n 192) 1 _ (λ e. omega (arith, e)) (picks (eqb n 576) 2 _ (λ e. omega (arith, e)) (picks (eqb n 1152) 3 _ (λ e. omega (arith, e))
    (picks (eqb n 2304) 4 _ (λ e. omega (arith, e)) (picks (eqb n 4608) 5 _ (λ e. omega (arith, e)) (picks (eqb n 256) 8 _ (λ e. omega (arith, e))
    (picks (eqb n 512) 9 _ (λ e. omega (arith, e)) (picks (eqb n 1024) 10 _ (λ e. omega (arith, e)) (picks (eqb n 2048) 11 _ (λ e. omega (arith, e))
    (picks (eqb n 4096) 12 _ (λ e. omega (arith, e)) (picks (eqb n 8192) 13 _ (λ e. omega (arith, e)) (picks (eqb n 16384) 14 _ (λ e. omega (arith, e))
    (picks (eqb n 32768) 15 _ (λ e. omega (arith, e)) (last_pick n)))))))))))))

pub flat_bits : (bytes : List ℕ) → flat_map (bits_of 8) bytes ≡ bits bytes
unfolding bits
flat_bits [] = refl
flat_bits (b ∷ bytes) = ap (λ (l : List Bool). bits_of 8 b ++ l) (flat_bits bytes)

pub length-codes_bits : (h : Head) (form : ℕ) → length (codes_bits h form) ≡ 32
unfolding codes_bits
length-codes_bits h form =
    let a : List Bool = bits_of 15 sync in
    let b : List Bool = bits_of 1 0 in
    let c : List Bool = bits_of 4 (block_code h.block) in
    let d : List Bool = bits_of 4 (rate_code h.stream.rate) in
    let e : List Bool = bits_of 4 form in
    let f : List Bool = bits_of 3 (depth_code h.stream.bits) in
    omega (
      arith,
      length-append (a ++ b ++ c ++ d ++ e ++ f) b,
      length-append (a ++ b ++ c ++ d ++ e) f,
      length-append (a ++ b ++ c ++ d) e,
      length-append (a ++ b ++ c) d,
      length-append (a ++ b) c,
      length-append a b,
      length-bits_of 15 sync,
      length-bits_of 1 0,
      length-bits_of 4 (block_code h.block),
      length-bits_of 4 (rate_code h.stream.rate),
      length-bits_of 4 form,
      length-bits_of 3 (depth_code h.stream.bits),
    )

pub length-further_bytes : (k v : ℕ) → length (further_bytes k v) ≡ 8 * k
unfolding further_bytes
length-further_bytes zero v = refl
length-further_bytes (suc k) v =
    let l : length (bits_of 6 (v / 2 ^ (6 * k)) ++ further_bytes k v) ≡ 6 + 8 * k = length-append (bits_of 6 (v / 2 ^ (6 * k))) (further_bytes k v) ∙ omega (arith, length-bits_of 6 (v / 2 ^ (6 * k)), length-further_bytes k v) in
    omega arith

length-shortest : (v : ℕ) → v < 2 ^ 36 → length (shortest v) % 8 ≡ 0
length-shortest v h =
    let c = shortest_is_code v h in
    let n : length (shortest v) ≡ length (first_byte c.0 v) + length (further_bytes c.0 v) = ap length c.3 ∙ length-append (first_byte c.0 v) (further_bytes c.0 v) in
    omega (arith, n, length-first_byte c.0 v c.1, length-further_bytes c.0 v)

length-block_bits : (code n : ℕ) → length (block_bits_by code n) % 8 ≡ 0
unfolding block_bits_by
length-block_bits code n =
    elim (eqb code 6) as (λ b. length (cond b (bits_of 8 (n - 1)) (cond (eqb code 7) (bits_of 16 (n - 1)) [])) % 8 ≡ 0) [
      | true ↦ omega (arith, length-bits_of 8 (n - 1))
      | false ↦ elim (eqb code 7) as (λ b. length (cond b (bits_of 16 (n - 1)) []) % 8 ≡ 0) [
        | true ↦ omega (arith, length-bits_of 16 (n - 1))
        | false ↦ omega arith
      ]
    ]

pub header_whole : (h : Head) (form : ℕ) → h.number < 2 ^ 36 → length (header_bits h form) % 8 ≡ 0
unfolding header_bits
header_whole h form n =
    let a : List Bool = codes_bits h form in
    let b : List Bool = shortest h.number in
    let c : List Bool = block_bits_by (block_code h.block) h.block in
    omega (arith, length-append (a ++ b) c, length-append a b, length-codes_bits h form, length-shortest h.number n, length-block_bits (block_code h.block) h.block)

pub header_is : (h : Head) (form : ℕ) (one two three : List Bool) → one ≡ codes_bits h form → two ≡ one ++ shortest h.number → three ≡ two ++ block_bits_by (block_code h.block) h.block
    → three ≡ header_bits h form
unfolding header_bits
header_is h form one two three a b c =
    c ∙ ap (λ (l : List Bool). l ++ block_bits_by (block_code h.block) h.block) (b ∙ ap (λ (l : List Bool). l ++ shortest h.number) a)

pub opened_is : (bytes : List ℕ) (header before one two : List Bool) (sum : ℕ) → bits bytes ≡ header → before ≡ [] → one ≡ before ++ flat_map (bits_of 8) bytes → sum ≡ crc8_of (bits bytes)
    → two ≡ one ++ bits_of 8 sum → two ≡ with_sum8 header
opened_is bytes header before one two sum h n e s f =
    f ∙ ap (λ (l : List Bool). l ++ bits_of 8 sum) (e ∙ ap (λ (l : List Bool). l ++ flat_map (bits_of 8) bytes) n ∙ flat_bits bytes ∙ h)
    ∙ ap (λ (v : ℕ). header ++ bits_of 8 v) (s ∙ ap crc8_of h)

-- two bytes of a sum
two_bytes : (sum high low : ℕ) → high ≡ sum / 256 → low ≡ sum % 256 → bits (high ∷ low ∷ []) ≡ bits_of 16 sum
unfolding bits
two_bytes sum high low h l =
    ap (λ (v : ℕ). bits_of 8 v ++ (bits_of 8 low ++ [])) h
    ∙ ap (λ (v : List Bool). bits_of 8 (sum / 256) ++ v) (append-nil (bits_of 8 low) ∙ ap (bits_of 8) l)
    ∙ sym (bits_of-parts 8 8 sum)

pub closed_is : (out padded : List Bool) (bytes one two : List ℕ) (sum high low : ℕ) → padded ≡ filled out → bits bytes ≡ padded → sum ≡ crc16_of (bits bytes)
    → high ≡ sum / 256 → low ≡ sum % 256 → one ≡ bytes ++ (high ∷ []) → two ≡ one ++ (low ∷ []) → bits two ≡ closed out
closed_is out padded bytes one two sum high low p b s h l e f =
    let is : bits bytes ≡ filled out = b ∙ p in
    ap bits (f ∙ ap (λ (xs : List ℕ). xs ++ (low ∷ [])) e ∙ append_assoc bytes (high ∷ []) (low ∷ []))
    ∙ bits-append bytes (high ∷ low ∷ [])
    ∙ ap (λ (l : List Bool). bits bytes ++ l) (two_bytes sum high low h l)
    ∙ ap (λ (l : List Bool). l ++ bits_of 16 sum) is
    ∙ ap (λ (v : ℕ). filled out ++ bits_of 16 v) (s ∙ ap crc16_of is)
