-- One byte of a coded number, there whole or in part.
use Rattle.std.proofs.Common.{◌≡◌, ℕ, zero, suc, ◌+◌, ◌-◌, ◌*◌, ◌%◌, ◌^◌, ◌<◌, ◌≤◌, Bool, true, false, cond, ltb, leb, ◌||◌, ◌&&◌, ◌⊎◌, List, ◌++◌, length, take, drop, refl, sym, ap, subst, ◌∙◌, inl, inr, arith, length-append}
use Rattle.std.proofs.Math.Nat.{pow-suc, mod-eq_of_lt, mul-le-mul_right}
use Rattle.std.proofs.lemmas.Nat.{pow-add, pow_pos}
use Rattle.std.proofs.lemmas.Bool.{ltb-true, lt-ltb, le-leb, leb-true, cases_lt, or_cases, and_parts, or_right, or_left, and_from}
use Rattle.std.proofs.lemmas.List.{take-append-drop, take_at, drop_at, length-take, take_all}
use Rattle.ff_bits.specs.Bits.{value_of, bits_of}
use Rattle.ff_bits.specs.Reading.{Done, More, Bad, field, some}
use Rattle.ff_bits.specs.NumberGrammar.{is_within}
use Rattle.ff_bits.proofs.BitsLemmas.{value_below, length-bits_of, bits_of-value_from}
use Rattle.ff_bits.proofs.Words.{value_of-bits_of}
use Rattle.ff_bits.proofs.Fields.{field-whole, field-part}
use Rattle.ff_bits.proofs.Sound.{cond_done, cond_more_done}

-- what the test of a range tells, and what tells it
touched : (x y low from to : ℕ) → (ltb x low || (ltb x to && ltb from y)) ≡ true → (x < low) ⊎ ((x < to) × (from < y))
touched x y low from to e = elim (or_cases (ltb x low) (ltb x to && ltb from y) e) [
  | inl h ↦ inl (ltb-true x low h)
  | inr h ↦ let p = and_parts (ltb x to) (ltb from y) h in inr (ltb-true x to p.0, ltb-true from y p.1)
]

touches_low : (x y low from to : ℕ) → x < low → (ltb x low || (ltb x to && ltb from y)) ≡ true
touches_low x y low from to h = or_left (ltb x low) (ltb x to && ltb from y) (lt-ltb x low h)

touches_high : (x y low from to : ℕ) → x < to → from < y → (ltb x low || (ltb x to && ltb from y)) ≡ true
touches_high x y low from to h k = or_right (ltb x low) (ltb x to && ltb from y) (and_from (ltb x to) (ltb from y) (lt-ltb x to h) (lt-ltb from y k))

same_tests : (a b : Bool) → (a ≡ true → b ≡ true) → (b ≡ true → a ≡ true) → a ≡ b
same_tests true b f g = sym (f refl)
same_tests false true f g = g refl
same_tests false false f g = refl

reaches : (from v : ℕ) → leb from v ≡ ltb from (v + 1)
reaches from v = same_tests (leb from v) (ltb from (v + 1)) (λ e. let h : from ≤ v = leb-true from v e in lt-ltb from (v + 1) (omega arith)) (λ e. let h : from < v + 1 = ltb-true from (v + 1) e in le-leb from v (omega arith))

-- some byte of so many bits more is below the first, or from the second up to the third
pub some-within : (low from to n v : ℕ) → from < to → some n (is_within low from to) v ≡ (ltb (v * 2 ^ n) low || (ltb (v * 2 ^ n) to && ltb from ((v + 1) * 2 ^ n)))
some-within low from to zero v h =
    let e : v * 2 ^ 0 ≡ v = omega arith in
    let f : (v + 1) * 2 ^ 0 ≡ v + 1 = omega arith in
    rw (e, f) (ap (λ (b : Bool). ltb v low || (ltb v to && b)) (reaches from v))
some-within low from to (suc n) v h =
    let x : ℕ = 2 * v * 2 ^ n in
    let y : ℕ = (2 * v + 1) * 2 ^ n in
    let z : ℕ = (2 * v + 1 + 1) * 2 ^ n in
    let x-is : v * 2 ^ suc n ≡ x = ap (λ (k : ℕ). v * k) (pow-suc 2 n) ∙ omega arith in
    let z-is : (v + 1) * 2 ^ suc n ≡ z = ap (λ (k : ℕ). (v + 1) * k) (pow-suc 2 n) ∙ omega arith in
    let y-is : y ≡ x + 2 ^ n = omega arith in
    let z-more : z ≡ y + 2 ^ n = omega arith in
    let p = pow_pos n in
    let a : Bool = ltb x low || (ltb x to && ltb from y) in
    let b : Bool = ltb y low || (ltb y to && ltb from z) in
    let halves : (a || b) ≡ (ltb x low || (ltb x to && ltb from z)) = same_tests (a || b) (ltb x low || (ltb x to && ltb from z))
    (λ e. elim (or_cases a b e) [
      | inl l ↦ elim (touched x y low from to l) [ inl k ↦ touches_low x z low from to k | inr k ↦ touches_high x z low from to k.0 (omega arith) ]
      | inr r ↦ elim (touched y z low from to r) [ inl k ↦ touches_low x z low from to (omega arith) | inr k ↦ touches_high x z low from to (omega arith) k.1 ]
    ])
    (λ e. elim (touched x z low from to e) [
      | inl k ↦ or_left a b (touches_low x y low from to k)
      | inr k ↦ elim (cases_lt from y) [ inl l ↦ or_left a b (touches_high x y low from to k.0 l) | inr g ↦ or_right a b (touches_high y z low from to (omega arith) k.1) ]
    ]) in
    rw (some-within low from to n (2 * v) h, some-within low from to n (2 * v + 1) h, x-is, z-is) halves

-- a byte that is there whole
pub field-byte : (p : ℕ → Bool) (b : ℕ) (rest : List Bool) → b < 256 → p b ≡ true → field 8 p (bits_of 8 b ++ rest) ≡ Done b rest
field-byte p b rest small pass =
    let long : 8 ≤ length (bits_of 8 b ++ rest) = omega (arith, length-append (bits_of 8 b) rest, length-bits_of 8 b) in
    let t : take 8 (bits_of 8 b ++ rest) ≡ bits_of 8 b = take_at (bits_of 8 b) rest 8 (length-bits_of 8 b) in
    let d : drop 8 (bits_of 8 b ++ rest) ≡ rest = drop_at (bits_of 8 b) rest 8 (length-bits_of 8 b) in
    let v : value_of (bits_of 8 b) ≡ b = value_of-bits_of 8 b ∙ mod-eq_of_lt small in
    field-whole 8 p 0 (bits_of 8 b ++ rest) long
    ∙ ap (λ (xs : List Bool). cond (p (value_of xs)) (Done (value_of xs) (drop 8 (bits_of 8 b ++ rest))) Bad) t
    ∙ ap (λ (x : ℕ). cond (p x) (Done x (drop 8 (bits_of 8 b ++ rest))) Bad) v
    ∙ ap (λ (x : Bool). cond x (Done b (drop 8 (bits_of 8 b ++ rest))) Bad) pass
    ∙ ap (Done b) d

pub byte-field : (p : ℕ → Bool) (xs : List Bool) (b : ℕ) (rest : List Bool) → field 8 p xs ≡ Done b rest → (xs ≡ bits_of 8 b ++ rest) × (p b ≡ true) × (b < 256)
byte-field p xs b rest e = elim (cases_lt (length xs) 8) [
  | inl lt ↦ absurd (cond_more_done (some (8 - length xs) p (value_of xs)) b rest (sym (field-part 8 p 0 xs lt) ∙ e))
  | inr ge ↦
      let c = cond_done (p (value_of (take 8 xs))) (value_of (take 8 xs)) b (drop 8 xs) rest (sym (field-whole 8 p 0 xs ge) ∙ e) in
      let lt : length (take 8 xs) ≡ 8 = omega (arith, length-take 8 xs) in
      let low : value_of (take 8 xs) < 2 ^ 8 = subst (λ (k : ℕ). value_of (take 8 xs) < 2 ^ k) lt (value_below (take 8 xs)) in
      let same : bits_of 8 (value_of (take 8 xs)) ≡ take 8 xs = bits_of-value_from 8 0 (take 8 xs) lt in (
        sym (take-append-drop 8 xs) ∙ ap (λ (ys : List Bool). ys ++ drop 8 xs) (sym same) ∙ ap (λ (x : ℕ). bits_of 8 x ++ drop 8 xs) c.1 ∙ ap (λ (ys : List Bool). bits_of 8 b ++ ys) c.2,
        subst (λ (x : ℕ). p x ≡ true) c.1 c.0,
        subst (λ (x : ℕ). x < 256) c.1 low,
      )
]

-- a byte that is there in part
pub part_of_byte : (low from to : ℕ) (xs : List Bool) (there value : ℕ) → from < to → length xs < 8 → there ≡ length xs → value ≡ value_of (take there xs)
    → field 8 (is_within low from to) xs ≡ cond (ltb (value * 2 ^ (8 - there)) low || (ltb (value * 2 ^ (8 - there)) to && ltb from ((value + 1) * 2 ^ (8 - there)))) More Bad
part_of_byte low from to xs there value h few t v =
    let whole : take there xs ≡ xs = take_all there xs (omega arith) in
    let p : value_of xs ≡ value = sym (v ∙ ap value_of whole) in
    field-part 8 (is_within low from to) 0 xs few
    ∙ ap (λ (b : Bool). cond b More Bad) (some-within low from to (8 - length xs) (value_of xs) h)
    ∙ ap (λ (x : ℕ). cond (ltb (x * 2 ^ (8 - length xs)) low || (ltb (x * 2 ^ (8 - length xs)) to && ltb from ((x + 1) * 2 ^ (8 - length xs)))) More Bad) p
    ∙ ap (λ (n : ℕ). cond (ltb (value * 2 ^ (8 - n)) low || (ltb (value * 2 ^ (8 - n)) to && ltb from ((value + 1) * 2 ^ (8 - n)))) More Bad) (sym t)

-- the shifts that make its ends lose nothing
pub ends_fit : (there value : ℕ) → there < 8 → value < 2 ^ there → (value * 2 ^ (8 - there) < 2 ^ 64) × ((value + 1) * 2 ^ (8 - there) < 2 ^ 64)
ends_fit there value h l =
    let p : 2 ^ there * 2 ^ (8 - there) ≡ 2 ^ 8 = sym (pow-add 2 there (8 - there)) ∙ ap (λ (k : ℕ). 2 ^ k) (let e : there + (8 - there) ≡ 8 = omega arith in e) in
    let m : value * 2 ^ (8 - there) ≤ 2 ^ there * 2 ^ (8 - there) = mul-le-mul_right (2 ^ (8 - there)) (omega arith) in
    let n : (value + 1) * 2 ^ (8 - there) ≤ 2 ^ there * 2 ^ (8 - there) = mul-le-mul_right (2 ^ (8 - there)) (omega arith) in
    (omega arith, omega arith)

pub part_read : (low from to : ℕ) (xs : List Bool) (there value : ℕ) (test : Bool) → from < to → length xs < 8 → there ≡ length xs → value ≡ value_of (take there xs) → value < 2 ^ there
    → test ≡ (ltb (value * 2 ^ (8 - there) % 2 ^ 64) low || (ltb (value * 2 ^ (8 - there) % 2 ^ 64) to && ltb from ((value + 1) * 2 ^ (8 - there) % 2 ^ 64)))
    → field 8 (is_within low from to) xs ≡ cond test More Bad
part_read low from to xs there value test h few t v below e =
    let fits = ends_fit there value (omega arith) below in
    let x : value * 2 ^ (8 - there) % 2 ^ 64 ≡ value * 2 ^ (8 - there) = mod-eq_of_lt fits.0 in
    let y : (value + 1) * 2 ^ (8 - there) % 2 ^ 64 ≡ (value + 1) * 2 ^ (8 - there) = mod-eq_of_lt fits.1 in
    let same : test ≡ (ltb (value * 2 ^ (8 - there)) low || (ltb (value * 2 ^ (8 - there)) to && ltb from ((value + 1) * 2 ^ (8 - there)))) =
    e ∙ ap (λ (k : ℕ). ltb k low || (ltb k to && ltb from ((value + 1) * 2 ^ (8 - there) % 2 ^ 64))) x ∙ ap (λ (k : ℕ). ltb (value * 2 ^ (8 - there)) low || (ltb (value * 2 ^ (8 - there)) to && ltb from k)) y in
    part_of_byte low from to xs there value h few t v ∙ ap (λ (b : Bool). cond b More Bad) (sym same)

-- a byte of the form 10xxxxxx
pub further_range : (b : ℕ) → is_within 0 128 192 b ≡ true → (128 ≤ b) × (b < 192)
further_range b e = elim (or_cases (ltb b 0) (ltb b 192 && leb 128 b) e) as (λ _. (128 ≤ b) × (b < 192)) [
  | inl h ↦ absurd (let l : b < 0 = ltb-true b 0 h in omega arith)
  | inr h ↦ let q = and_parts (ltb b 192) (leb 128 b) h in (leb-true 128 b q.1, ltb-true b 192 q.0)
]
