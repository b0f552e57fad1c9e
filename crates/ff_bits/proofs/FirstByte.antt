-- The first byte of a coded number.
use Rattle.std.proofs.Common.{◌≡◌, ℕ, zero, suc, ◌+◌, ◌-◌, ◌*◌, ◌/◌, ◌%◌, ◌^◌, ◌<◌, ◌≤◌, Bool, true, false, ltb, leb, ◌&&◌, ◌⊎◌, List, [], ◌∷◌, ◌++◌, length, refl, sym, ap, subst, ◌∙◌, inl, inr, arith, length-append}
use Rattle.std.specs.Prelude.{replicate}
use Rattle.std.proofs.lemmas.Nat.{shr_below, one_shl}
use Rattle.std.proofs.lemmas.Bool.{ltb-true, lt-ltb, le-ltb, le-leb, leb-true, cases_lt, or_cases, and_parts, or_right, or_left, and_from}
use Rattle.std.proofs.lemmas.List.{length-replicate}
use Rattle.ff_bits.specs.Bits.{bits_of}
use Rattle.ff_bits.specs.Number.{first_byte, capacity}
use Rattle.ff_bits.specs.NumberGrammar.{is_within, follow, opened}
use Rattle.ff_bits.proofs.BitsLemmas.{length-bits_of}
use Rattle.ff_bits.proofs.BitsOf.{bits_of-add}

-- the ones and the zero of the first byte, and how many bits of the value stand behind them
abbrev pub mark : ℕ → ℕ
mark zero = 0
mark (suc k) = 256 - 2 ^ (6 - k)

abbrev pub room : ℕ → ℕ
room zero = 7
room (suc k) = 5 - k

pub record IsOpening (byte k x : ℕ) : Type 0 where
  pub few : k ≤ 6
  pub whole : byte ≡ mark k + x
  pub small : x < 2 ^ room k

at_0 : (b : ℕ) → b < 128 → (follow b ≡ 0) × (opened b ≡ b)
unfolding follow opened
at_0 b h = let e = lt-ltb b 128 h in (rw e refl, rw e refl)

at_1 : (b : ℕ) → 128 ≤ b → b < 224 → (follow b ≡ 1) × (opened b ≡ b - 192)
unfolding follow opened
at_1 b l h = let e = le-ltb b 128 l in let f = lt-ltb b 224 h in (rw (e, f) refl, rw (e, f) refl)

at_2 : (b : ℕ) → 224 ≤ b → b < 240 → (follow b ≡ 2) × (opened b ≡ b - 224)
unfolding follow opened
at_2 b l h = let d = le-ltb b 128 (omega arith) in let e = le-ltb b 224 l in let f = lt-ltb b 240 h in (rw (d, e, f) refl, rw (d, e, f) refl)

at_3 : (b : ℕ) → 240 ≤ b → b < 248 → (follow b ≡ 3) × (opened b ≡ b - 240)
unfolding follow opened
at_3 b l h = let c = le-ltb b 128 (omega arith) in let d = le-ltb b 224 (omega arith) in let e = le-ltb b 240 l in let f = lt-ltb b 248 h in (rw (c, d, e, f) refl, rw (c, d, e, f) refl)

at_4 : (b : ℕ) → 248 ≤ b → b < 252 → (follow b ≡ 4) × (opened b ≡ b - 248)
unfolding follow opened
at_4 b l h =
    let c = le-ltb b 128 (omega arith) in let d = le-ltb b 224 (omega arith) in let e = le-ltb b 240 (omega arith) in let f = le-ltb b 248 l in let g = lt-ltb b 252 h in
    (rw (c, d, e, f, g) refl, rw (c, d, e, f, g) refl)

at_5 : (b : ℕ) → 252 ≤ b → b < 254 → (follow b ≡ 5) × (opened b ≡ b - 252)
unfolding follow opened
at_5 b l h =
    let c = le-ltb b 128 (omega arith) in let d = le-ltb b 224 (omega arith) in let e = le-ltb b 240 (omega arith) in let f = le-ltb b 248 (omega arith) in let g = le-ltb b 252 l in let i = lt-ltb b 254 h in
    (rw (c, d, e, f, g, i) refl, rw (c, d, e, f, g, i) refl)

at_6 : (b : ℕ) → 254 ≤ b → (follow b ≡ 6) × (opened b ≡ b - 254)
unfolding follow opened
at_6 b l =
    let c = le-ltb b 128 (omega arith) in let d = le-ltb b 224 (omega arith) in let e = le-ltb b 240 (omega arith) in let f = le-ltb b 248 (omega arith) in let g = le-ltb b 252 (omega arith) in let i = le-ltb b 254 l in
    (rw (c, d, e, f, g, i) refl, rw (c, d, e, f, g, i) refl)

opening_as : (b k x : ℕ) → (follow b ≡ k) × (opened b ≡ x) → IsOpening b k x → IsOpening b (follow b) (opened b)
opening_as b k x p h = subst (λ (i : ℕ). IsOpening b i (opened b)) (sym p.0) (subst (λ (y : ℕ). IsOpening b k y) (sym p.1) h)

pub opening : (b : ℕ) → is_within 0x80 0xc0 0xff b ≡ true → IsOpening b (follow b) (opened b)
opening b p =
    let t : (b < 128) ⊎ ((b < 255) × (192 ≤ b)) = elim (or_cases (ltb b 128) (ltb b 255 && leb 192 b) p) [
      | inl h ↦ inl (ltb-true b 128 h)
      | inr h ↦ let q = and_parts (ltb b 255) (leb 192 b) h in inr (ltb-true b 255 q.0, leb-true 192 b q.1)
    ] in
    elim t [
      | inl h ↦ opening_as b 0 b (at_0 b h) (record { few = omega arith; whole = omega arith; small = omega arith })
      | inr h ↦ let top = h.0 in let low = h.1 in elim (cases_lt b 224) [
        | inl l ↦ opening_as b 1 (b - 192) (at_1 b (omega arith) l) (record { few = omega arith; whole = omega arith; small = omega arith })
        | inr g ↦ elim (cases_lt b 240) [
          | inl l ↦ opening_as b 2 (b - 224) (at_2 b g l) (record { few = omega arith; whole = omega arith; small = omega arith })
          | inr g ↦ elim (cases_lt b 248) [
            | inl l ↦ opening_as b 3 (b - 240) (at_3 b g l) (record { few = omega arith; whole = omega arith; small = omega arith })
            | inr g ↦ elim (cases_lt b 252) [
              | inl l ↦ opening_as b 4 (b - 248) (at_4 b g l) (record { few = omega arith; whole = omega arith; small = omega arith })
              | inr g ↦ elim (cases_lt b 254) [
                | inl l ↦ opening_as b 5 (b - 252) (at_5 b g l) (record { few = omega arith; whole = omega arith; small = omega arith })
                | inr g ↦ opening_as b 6 (b - 254) (at_6 b g) (record { few = omega arith; whole = omega arith; small = omega arith })
              ]
            ]
          ]
        ]
      ]
    ]

passes_low : (b : ℕ) → b < 128 → is_within 0x80 0xc0 0xff b ≡ true
passes_low b h = or_left (ltb b 128) (ltb b 255 && leb 192 b) (lt-ltb b 128 h)

passes_high : (b : ℕ) → b < 255 → 192 ≤ b → is_within 0x80 0xc0 0xff b ≡ true
passes_high b h k = or_right (ltb b 128) (ltb b 255 && leb 192 b) (and_from (ltb b 255) (leb 192 b) (lt-ltb b 255 h) (le-leb 192 b k))

-- the first byte of a coded number, as a number
abbrev pub IsFirst : ℕ → ℕ → ℕ → Type 0
IsFirst byte k x = (is_within 0x80 0xc0 0xff byte ≡ true) × (byte < 256) × (follow byte ≡ k) × (opened byte ≡ x)

pub first_is : (byte k x : ℕ) → IsOpening byte k x → IsFirst byte k x
first_is b zero x h = let w = h.whole in let s = h.small in let t = at_0 b (omega arith) in (passes_low b (omega arith), omega arith, t.0, t.1 ∙ omega arith)
first_is b (suc zero) x h = let w = h.whole in let s = h.small in let t = at_1 b (omega arith) (omega arith) in (passes_high b (omega arith) (omega arith), omega arith, t.0, t.1 ∙ omega arith)
first_is b (suc (suc zero)) x h = let w = h.whole in let s = h.small in let t = at_2 b (omega arith) (omega arith) in (passes_high b (omega arith) (omega arith), omega arith, t.0, t.1 ∙ omega arith)
first_is b (suc (suc (suc zero))) x h = let w = h.whole in let s = h.small in let t = at_3 b (omega arith) (omega arith) in (passes_high b (omega arith) (omega arith), omega arith, t.0, t.1 ∙ omega arith)
first_is b (suc (suc (suc (suc zero)))) x h = let w = h.whole in let s = h.small in let t = at_4 b (omega arith) (omega arith) in (passes_high b (omega arith) (omega arith), omega arith, t.0, t.1 ∙ omega arith)
first_is b (suc (suc (suc (suc (suc zero))))) x h = let w = h.whole in let s = h.small in let t = at_5 b (omega arith) (omega arith) in (passes_high b (omega arith) (omega arith), omega arith, t.0, t.1 ∙ omega arith)
first_is b (suc (suc (suc (suc (suc (suc zero)))))) x h = let w = h.whole in let s = h.small in let t = at_6 b (omega arith) in (passes_high b (omega arith) (omega arith), omega arith, t.0, t.1 ∙ omega arith)
first_is b (suc (suc (suc (suc (suc (suc (suc k))))))) x h = absurd (let f = h.few in omega arith)

-- its bits
pub written_as : (a b x y byte : ℕ) (front : List Bool) → y < 2 ^ b → byte ≡ x * 2 ^ b + y → bits_of a x ≡ front → front ++ bits_of b y ≡ bits_of (a + b) byte
written_as a b x y byte front h e f = sym (ap (bits_of (a + b)) e ∙ bits_of-add a b x y h ∙ ap (λ (ys : List Bool). ys ++ bits_of b y) f)

pub first_bits : (byte k v : ℕ) → IsOpening byte k (v / 2 ^ (6 * k)) → first_byte k v ≡ bits_of 8 byte
unfolding first_byte bits_of
first_bits b zero v h = let w = h.whole in let s = h.small in let one : v / 2 ^ (6 * 0) ≡ v = omega arith in written_as 1 7 0 v b (false ∷ []) (omega arith) (omega arith) refl
first_bits b (suc zero) v h = let w = h.whole in written_as 3 5 6 (v / 2 ^ (6 * 1)) b (true ∷ true ∷ false ∷ []) h.small (omega arith) refl
first_bits b (suc (suc zero)) v h = let w = h.whole in written_as 4 4 14 (v / 2 ^ (6 * 2)) b (true ∷ true ∷ true ∷ false ∷ []) h.small (omega arith) refl
first_bits b (suc (suc (suc zero))) v h = let w = h.whole in written_as 5 3 30 (v / 2 ^ (6 * 3)) b (true ∷ true ∷ true ∷ true ∷ false ∷ []) h.small (omega arith) refl
first_bits b (suc (suc (suc (suc zero)))) v h = let w = h.whole in written_as 6 2 62 (v / 2 ^ (6 * 4)) b (true ∷ true ∷ true ∷ true ∷ true ∷ false ∷ []) h.small (omega arith) refl
first_bits b (suc (suc (suc (suc (suc zero))))) v h = let w = h.whole in written_as 7 1 126 (v / 2 ^ (6 * 5)) b (true ∷ true ∷ true ∷ true ∷ true ∷ true ∷ false ∷ []) h.small (omega arith) refl
first_bits b (suc (suc (suc (suc (suc (suc zero)))))) v h = let w = h.whole in written_as 8 0 254 (v / 2 ^ (6 * 6)) b (true ∷ true ∷ true ∷ true ∷ true ∷ true ∷ true ∷ false ∷ []) h.small (omega arith) refl
first_bits b (suc (suc (suc (suc (suc (suc (suc k))))))) v h = absurd (let f = h.few in omega arith)

-- the part of a value that stands before k further bytes
abbrev pub high_part : ℕ → ℕ → ℕ
high_part k v = v / 2 ^ (6 * k)

pub room-capacity : (k : ℕ) → k ≤ 6 → capacity k ≡ room k + 6 * k
room-capacity zero h = refl
room-capacity (suc k) h = omega arith

pub opened_by : (k v : ℕ) → k ≤ 6 → v < 2 ^ capacity k → IsOpening (mark k + high_part k v) k (high_part k v)
opened_by k v h l = record { few = h; whole = refl; small = shr_below v (room k) (6 * k) (subst (λ (j : ℕ). v < 2 ^ j) (room-capacity k h) l) }

mark_of : (k : ℕ) → (k ≡ 0 → ⊥) → mark k ≡ 256 - 2 ^ (7 - k)
mark_of zero h = absurd (h refl)
mark_of (suc k) h = let e : 7 - suc k ≡ 6 - k = omega arith in ap (λ (n : ℕ). 256 - 2 ^ n) (sym e)

first_written : (k v byte : ℕ) → k ≤ 6 → v < 2 ^ capacity k → byte ≡ mark k + v / 2 ^ (6 * k) → (bits_of 8 byte ≡ first_byte k v) × (byte < 256)
first_written k v byte h l e =
    let o : IsOpening byte k (high_part k v) = subst (λ (b : ℕ). IsOpening b k (high_part k v)) (sym e) (opened_by k v h l) in
    (sym (first_bits byte k v o), (first_is byte k (high_part k v) o).1)

pub first_alone : (k v : ℕ) → k ≡ 0 → k ≤ 6 → v < 2 ^ capacity k → bits_of 8 v ≡ first_byte k v
first_alone k v z h l =
    let e : v ≡ mark k + v / 2 ^ (6 * k) = subst (λ (j : ℕ). v ≡ mark j + v / 2 ^ (6 * j)) (sym z) (let f : v ≡ mark 0 + v / 2 ^ (6 * 0) = omega arith in f) in
    (first_written k v v h l e).0

pub first_marked : (k v : ℕ) → (k ≡ 0 → ⊥) → k ≤ 6 → v < 2 ^ capacity k
    → (bits_of 8 (256 - 1 * 2 ^ (7 - k) % 2 ^ 64 + v / 2 ^ (6 * k)) ≡ first_byte k v) × (256 - 1 * 2 ^ (7 - k) % 2 ^ 64 + v / 2 ^ (6 * k) < 256)
first_marked k v z h l =
    let one : 1 * 2 ^ (7 - k) % 2 ^ 64 ≡ 2 ^ (7 - k) = one_shl (7 - k) 64 (omega arith) in
    let e : 256 - 1 * 2 ^ (7 - k) % 2 ^ 64 + v / 2 ^ (6 * k) ≡ mark k + v / 2 ^ (6 * k) = ap (λ (m : ℕ). 256 - m + v / 2 ^ (6 * k)) one ∙ ap (λ (m : ℕ). m + v / 2 ^ (6 * k)) (sym (mark_of k z)) in
    first_written k v (256 - 1 * 2 ^ (7 - k) % 2 ^ 64 + v / 2 ^ (6 * k)) h l e

pub length-first_byte : (k v : ℕ) → k ≤ 6 → length (first_byte k v) ≡ 8
unfolding first_byte
length-first_byte zero v h = ap suc (length-bits_of 7 v)
length-first_byte (suc k) v h =
    let front : List Bool = replicate (suc k + 1) true in
    let rest : List Bool = bits_of (5 - k) (v / 2 ^ (6 * suc k)) in
    let few : length rest ≡ 5 - k = length-bits_of (5 - k) (v / 2 ^ (6 * suc k)) in
    length-append front (false ∷ rest) ∙ omega (arith, length-replicate {A = Bool} (suc k + 1) true)
