-- Coded numbers by their first byte: which values they can have.
use Rattle.std.proofs.Common.{◌≡◌, ℕ, zero, suc, ◌+◌, ◌*◌, ◌^◌, ◌<◌, ◌≤◌, Bool, true, ltb, leb, ◌&&◌, List, ◌++◌, sym, ap, ◌∙◌, append_assoc, inl, inr, arith}
use Rattle.std.proofs.Math.Nat.{pow-le-pow_right}
use Rattle.std.proofs.lemmas.Bool.{ltb-true, lt-ltb, or_cases, or_left, or_right, and_parts, and_from}
use Rattle.std.proofs.lemmas.Bool.Decides.{nat_tests}
use Rattle.ff_bits.specs.Bits.{bits_of}
use Rattle.ff_bits.specs.Number.{capacity, code_with, fewest, shortest, further_bytes}
use Rattle.ff_bits.specs.Reading.{Answer, Done, Reader, on, field}
use Rattle.ff_bits.specs.NumberGrammar.{is_within, follow, opened, sixes, coded, coded_below, first}
use Rattle.ff_bits.proofs.Sound.{done_of}
use Rattle.ff_bits.proofs.OneByte.{field-byte, byte-field}
use Rattle.ff_bits.proofs.FirstByte.{mark, room, IsOpening, opening, first_is, first_bits, high_part, opened_by}
use Rattle.ff_bits.proofs.NumberLemmas.{coded-forward, value_small}
use Rattle.ff_bits.proofs.LawLemmas.{fewest_is}

-- ---- what is read

within_ff : (end b : ℕ) → end ≤ 0xff → is_within 0x80 0xc0 end b ≡ true → is_within 0x80 0xc0 0xff b ≡ true
within_ff end b h w = elim (or_cases (ltb b 0x80) (ltb b end && leb 0xc0 b) w) [
  | inl low ↦ or_left (ltb b 0x80) (ltb b 0xff && leb 0xc0 b) low
  | inr high ↦
      let p = and_parts (ltb b end) (leb 0xc0 b) high in
      let l : b < end = ltb-true b end p.0 in
      or_right (ltb b 0x80) (ltb b 0xff && leb 0xc0 b) (and_from (ltb b 0xff) (leb 0xc0 b) (lt-ltb b 0xff (omega arith)) p.1)
]

below_end : (end b : ℕ) → 0x80 ≤ end → is_within 0x80 0xc0 end b ≡ true → b < end
below_end end b h w = elim (or_cases (ltb b 0x80) (ltb b end && leb 0xc0 b) w) [
  | inl low ↦ let l : b < 0x80 = ltb-true b 0x80 low in omega arith
  | inr high ↦ ltb-true b end ((and_parts (ltb b end) (leb 0xc0 b) high).0)
]

-- what the first byte says of the value behind it
record IsOf (end v : ℕ) : Type 0 where
  byte : ℕ
  below : byte < end
  opens : IsOpening byte (follow byte) (opened byte)
  small : v < 2 ^ capacity (follow byte)

read_of : (end : ℕ) → 0x80 ≤ end → end ≤ 0xff → (xs rest : List Bool) (v : ℕ) → coded_below end xs ≡ Done v rest → IsOf end v
unfolding coded_below
read_of end g h xs rest v e =
    let d = done_of (field 8 (is_within 0x80 0xc0 end)) (λ byte. sixes (follow byte) (opened byte)) xs v rest e in
    let f = byte-field (is_within 0x80 0xc0 end) xs d.0 d.1 d.2 in
    let w = within_ff end d.0 h f.1 in
    record { byte = d.0; below = below_end end d.0 g f.1; opens = opening d.0 w; small = value_small d.0 v d.1 rest w d.3 }

few_follow : (k b x : ℕ) → IsOpening b k x → b < 0xfe → k ≤ 5
few_follow zero b x o l = omega arith
few_follow (suc zero) b x o l = omega arith
few_follow (suc (suc zero)) b x o l = omega arith
few_follow (suc (suc (suc zero))) b x o l = omega arith
few_follow (suc (suc (suc (suc zero)))) b x o l = omega arith
few_follow (suc (suc (suc (suc (suc zero))))) b x o l = omega arith
few_follow (suc (suc (suc (suc (suc (suc zero)))))) b x o l = absurd (let w = o.whole in omega arith)
few_follow (suc (suc (suc (suc (suc (suc (suc k))))))) b x o l = absurd (let f = o.few in omega arith)

capacity_below : (k m : ℕ) → 1 ≤ m → k ≤ m → capacity k ≤ 6 + 5 * m
capacity_below zero m g h = omega arith
capacity_below (suc k) m g h = omega arith

value_below : (k m v : ℕ) → 1 ≤ m → k ≤ m → v < 2 ^ capacity k → v < 2 ^ (6 + 5 * m)
value_below k m v g h l =
    let two : 0 < 2 = omega arith in
    let p : 2 ^ capacity k ≤ 2 ^ (6 + 5 * m) = pow-le-pow_right two (capacity_below k m g h) in
    omega arith

pub read_31 : (xs rest : List Bool) (v : ℕ) → coded_below 0xfe xs ≡ Done v rest → v < 2 ^ 31
read_31 xs rest v e =
    let r = read_of 0xfe (omega arith) (omega arith) xs rest v e in
    value_below (follow r.byte) 5 v (omega arith) (few_follow (follow r.byte) r.byte (opened r.byte) r.opens r.below) r.small

pub read_36 : (xs rest : List Bool) (v : ℕ) → coded_below 0xff xs ≡ Done v rest → v < 2 ^ 36
read_36 xs rest v e =
    let r = read_of 0xff (omega arith) (omega arith) xs rest v e in
    value_below (follow r.byte) 6 v (omega arith) r.opens.few r.small

-- ---- what is written

within_fe : (b : ℕ) → is_within 0x80 0xc0 0xff b ≡ true → b < 0xfe → is_within 0x80 0xc0 0xfe b ≡ true
within_fe b h l = elim (or_cases (ltb b 0x80) (ltb b 0xff && leb 0xc0 b) h) [
  | inl low ↦ or_left (ltb b 0x80) (ltb b 0xfe && leb 0xc0 b) low
  | inr high ↦ or_right (ltb b 0x80) (ltb b 0xfe && leb 0xc0 b) (and_from (ltb b 0xfe) (leb 0xc0 b) (lt-ltb b 0xfe l) (and_parts (ltb b 0xff) (leb 0xc0 b) high).1)
]

first_low : (k b x : ℕ) → k ≤ 5 → b ≡ mark k + x → x < 2 ^ room k → b < 0xfe
first_low zero b x h e l = omega arith
first_low (suc zero) b x h e l = omega arith
first_low (suc (suc zero)) b x h e l = omega arith
first_low (suc (suc (suc zero))) b x h e l = omega arith
first_low (suc (suc (suc (suc zero)))) b x h e l = omega arith
first_low (suc (suc (suc (suc (suc zero))))) b x h e l = omega arith
first_low (suc (suc (suc (suc (suc (suc k)))))) b x h e l = absurd (omega arith)

reads_code : (k v : ℕ) (rest : List Bool) → k ≤ 5 → v < 2 ^ capacity k → coded_below 0xfe (code_with k v ++ rest) ≡ Done v rest
unfolding coded coded_below
reads_code k v rest h l =
    let b : ℕ = mark k + high_part k v in
    let six : k ≤ 6 = omega arith in
    let o = opened_by k v six l in
    let f = first_is b k (high_part k v) o in
    let more : List Bool = further_bytes k v ++ rest in
    let F : ℕ → Reader ℕ = λ byte. sixes (follow byte) (opened byte) in
    let low : b < 0xfe = first_low k b (high_part k v) h o.whole o.small in
    let text : code_with k v ++ rest ≡ bits_of 8 b ++ more = ap (λ (ys : List Bool). (ys ++ further_bytes k v) ++ rest) (first_bits b k v o) ∙ append_assoc (bits_of 8 b) (further_bytes k v) rest in
    let got = field-byte (is_within 0x80 0xc0 0xff) b more f.1 f.0 in
    let got_low = field-byte (is_within 0x80 0xc0 0xfe) b more f.1 (within_fe b f.0 low) in
    ap (λ (xs : List Bool). on (field 8 (is_within 0x80 0xc0 0xfe) xs) F) text ∙ ap (λ (a : Answer ℕ). on a F) got_low
    ∙ sym (ap (λ (xs : List Bool). on (first xs) F) text ∙ ap (λ (a : Answer ℕ). on a F) got)
    ∙ coded-forward k v rest six l

fewest_low : (v : ℕ) → v < 2 ^ 31 → fewest v ≤ 5
fewest_low v h = grind (arith, nat_tests)

pub reads_31 : (v : ℕ) (rest : List Bool) → v < 2 ^ 31 → coded_below 0xfe (shortest v ++ rest) ≡ Done v rest
unfolding shortest
reads_31 v rest h = reads_code (fewest v) v rest (fewest_low v h) (fewest_is v (omega (arith, h))).room

pub reads_36 : (v : ℕ) (rest : List Bool) → v < 2 ^ 36 → coded_below 0xff (shortest v ++ rest) ≡ Done v rest
unfolding coded coded_below shortest
reads_36 v rest h = let c = fewest_is v h in coded-forward (fewest v) v rest c.few c.room
