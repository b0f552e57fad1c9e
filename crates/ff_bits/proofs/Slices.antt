-- Several bytes at once: the remainder of a sum is the sum of the remainders.
use Rattle.std.proofs.Common.{◌≡◌, ℕ, zero, suc, ◌+◌, ◌-◌, ◌*◌, ◌/◌, ◌%◌, ◌^◌, ◌<◌, ◌≤◌, ◌==◌, ◌&&◌, Bool, true, false, cond, ltb, List, [], ◌∷◌, ◌++◌, length, take, drop, get_or, refl, sym, ap, ◌∙◌, append_assoc, inl, inr, arith, bit_xor, bit_and, length-append, length-drop}
use Rattle.std.specs.Prelude.{replicate}
use Rattle.std.proofs.Math.Nat.{mod-eq_of_lt}
use Rattle.std.proofs.lemmas.Nat.{pow_pos, xor_comm, xor_lt, xor_block, and_mask}
use Rattle.std.specs.Int.Bits.{xor_assoc, xor_self, xor_zero_r}
use Rattle.std.proofs.lemmas.Bool.{lt-ltb, le-ltb, cases_lt, and_parts, eqb-true}
use Rattle.std.proofs.lemmas.List.{replicate-append-replicate, get_or-take, get_or-drop, length-take, take_rest, take-append-drop, drop_more, drop_all}
use Rattle.ff_bits.specs.Bits.{value_of, bits_of, bits}
use Rattle.ff_bits.specs.Crc.{reduced, remainder_from, left_of}
use Rattle.ff_bits.proofs.BitsLemmas.{length-bits, length-bits_of, bits-append, bits-one}
use Rattle.ff_bits.proofs.BitsOf.{bits_of-add}
use Rattle.ff_bits.proofs.Words.{value_of-append, value_of-bits_of}
use Rattle.ff_bits.proofs.CrcLemmas.{cancels, xor_double, divides, brought_below, reduced_below, remainder_from-append}
use Rattle.ff_bits.proofs.Tables.{reduced_low, brought_early, by_table}

pub xor_zero_l : (a : ℕ) → bit_xor 0 a ≡ a
xor_zero_l a = xor_comm 0 a ∙ xor_zero_r a

-- what bytes leave, each by itself
abbrev pub mixed : ℕ → ℕ → List ℕ → ℕ
mixed divisor k [] = 0
mixed divisor k (b ∷ bytes) = bit_xor (mixed divisor k bytes) (left_of divisor k (length bytes) b)

module _ (divisor k : ℕ) (at_least : 2 ^ k ≤ divisor) (below : divisor < 2 ^ (k + 1)) where
  pub reduced-xor : (p q : ℕ) → p < 2 ^ (k + 1) → q < 2 ^ (k + 1) → reduced divisor k (bit_xor p q) ≡ bit_xor (reduced divisor k p) (reduced divisor k q)
  reduced-xor p q hp hq = elim (cases_lt q (2 ^ k)) [
    | inl low ↦ reduced_low divisor k p q (ltb p (2 ^ k)) refl hp low ∙ ap (λ (b : Bool). bit_xor (reduced divisor k p) (cond b q (bit_xor q divisor))) (sym (lt-ltb q (2 ^ k) low))
    | inr high ↦ elim (cases_lt p (2 ^ k)) [
      | inl low ↦
          ap (reduced divisor k) (xor_comm p q) ∙ reduced_low divisor k q p (ltb q (2 ^ k)) refl hq low ∙ xor_comm (reduced divisor k q) p
          ∙ ap (λ (b : Bool). bit_xor (cond b p (bit_xor p divisor)) (reduced divisor k q)) (sym (lt-ltb p (2 ^ k) low))
      | inr high_too ↦
          let small : bit_xor p q < 2 ^ k = cancels q k high hq p high_too hp in
          let left : reduced divisor k (bit_xor p q) ≡ bit_xor p q = ap (λ (b : Bool). cond b (bit_xor p q) (bit_xor (bit_xor p q) divisor)) (lt-ltb (bit_xor p q) (2 ^ k) small) in
          let rp : reduced divisor k p ≡ bit_xor p divisor = ap (λ (b : Bool). cond b p (bit_xor p divisor)) (le-ltb p (2 ^ k) high_too) in
          let rq : reduced divisor k q ≡ bit_xor q divisor = ap (λ (b : Bool). cond b q (bit_xor q divisor)) (le-ltb q (2 ^ k) high) in
          let swap : bit_xor (bit_xor p divisor) (bit_xor q divisor) ≡ bit_xor p q =
          ap (λ (y : ℕ). bit_xor (bit_xor p divisor) y) (xor_comm q divisor) ∙ xor_assoc p divisor (bit_xor divisor q)
          ∙ ap (λ (y : ℕ). bit_xor p y) (sym (xor_assoc divisor divisor q) ∙ ap (λ (y : ℕ). bit_xor y q) (xor_self divisor) ∙ xor_zero_l q) in
          left ∙ sym (ap (λ (y : ℕ). bit_xor y (reduced divisor k q)) rp ∙ ap (bit_xor (bit_xor p divisor)) rq ∙ swap)
    ]
  ]

  pub remainder_from-xor : (xs : List Bool) (r s : ℕ) → r < 2 ^ k → s < 2 ^ k → remainder_from divisor k (bit_xor r s) xs ≡ bit_xor (remainder_from divisor k r xs) (remainder_from divisor k s (replicate (length xs) false))
  remainder_from-xor [] r s hr hs = refl
  remainder_from-xor (b ∷ xs) r s hr hs =
      let d : ℕ = cond b (2 ^ k) 0 in
      let p : ℕ = bit_xor (2 * r) d in
      let q : ℕ = bit_xor (2 * s) 0 in
      let hp : p < 2 ^ (k + 1) = brought_below divisor k at_least below r b hr in
      let hq : q < 2 ^ (k + 1) = brought_below divisor k at_least below s false hs in
      let both : bit_xor (2 * bit_xor r s) d ≡ bit_xor p q =
      ap (λ (y : ℕ). bit_xor y d) (sym (xor_double r s)) ∙ xor_assoc (2 * r) (2 * s) d ∙ ap (bit_xor (2 * r)) (xor_comm (2 * s) d) ∙ sym (xor_assoc (2 * r) d (2 * s)) ∙ ap (bit_xor p) (sym (xor_zero_r (2 * s))) in
      ap (λ (y : ℕ). remainder_from divisor k (reduced divisor k y) xs) both
      ∙ ap (λ (y : ℕ). remainder_from divisor k y xs) (reduced-xor p q hp hq)
      ∙ remainder_from-xor xs (reduced divisor k p) (reduced divisor k q) (reduced_below divisor k at_least below p hp) (reduced_below divisor k at_least below q hq)

  pub remainder_below : (xs : List Bool) (r : ℕ) → r < 2 ^ k → remainder_from divisor k r xs < 2 ^ k
  remainder_below xs r h = (divides divisor k at_least below xs r 0 r (let z : 0 * 2 ^ k ≡ 0 = omega arith in z ∙ sym (xor_self r)) h).0

  pub remainder_from-mixed : (bytes : List ℕ) → remainder_from divisor k 0 (bits bytes) ≡ mixed divisor k bytes
  unfolding bits left_of
  remainder_from-mixed [] = refl
  remainder_from-mixed (b ∷ bytes) =
      let none : 0 < 2 ^ k = pow_pos k in
      let x : ℕ = remainder_from divisor k 0 (bits_of 8 b) in
      let small : x < 2 ^ k = remainder_below (bits_of 8 b) 0 none in
      let behind : remainder_from divisor k x (replicate (length (bits bytes)) false) ≡ left_of divisor k (length bytes) b =
      ap (λ (n : ℕ). remainder_from divisor k x (replicate n false)) (length-bits bytes) ∙ sym (remainder_from-append divisor k 0 (bits_of 8 b) (replicate (8 * length bytes) false)) in
      remainder_from-append divisor k 0 (bits_of 8 b) (bits bytes) ∙ ap (λ (y : ℕ). remainder_from divisor k y (bits bytes)) (sym (xor_zero_l x))
      ∙ remainder_from-xor (bits bytes) 0 x none small ∙ ap (λ (y : ℕ). bit_xor y (remainder_from divisor k x (replicate (length (bits bytes)) false))) (remainder_from-mixed bytes)
      ∙ ap (bit_xor (mixed divisor k bytes)) behind

  -- a remainder is taken into the message behind it
  pub absorbed : (xs : List Bool) (r : ℕ) → r < 2 ^ k → length xs ≡ k → value_of xs < 2 ^ k → remainder_from divisor k r xs ≡ remainder_from divisor k 0 (bits_of k (bit_xor r (value_of xs)))
  absorbed xs r h len v =
      let y : ℕ = bit_xor r (value_of xs) in
      let small : y < 2 ^ k = xor_lt k r (value_of xs) h v in
      let ys : List Bool = bits_of k y in
      let lys : length ys ≡ k = length-bits_of k y in
      let vys : value_of ys ≡ y = value_of-bits_of k y ∙ mod-eq_of_lt small in
      let whole : (x : ℕ) → x * 2 ^ (k - k) ≡ x = λ (x : ℕ). (let e : k - k ≡ 0 = omega arith in ap (λ (j : ℕ). x * 2 ^ j) e ∙ omega arith) in
      let left : remainder_from divisor k r xs ≡ remainder_from divisor k y (replicate k false) =
      brought_early divisor k xs r h (omega arith) at_least below ∙ ap (λ (n : ℕ). remainder_from divisor k (bit_xor r (value_of xs * 2 ^ (k - n))) (replicate n false)) len
      ∙ ap (λ (x : ℕ). remainder_from divisor k (bit_xor r x) (replicate k false)) (whole (value_of xs)) in
      let right : remainder_from divisor k 0 ys ≡ remainder_from divisor k y (replicate k false) =
      brought_early divisor k ys 0 (pow_pos k) (omega arith) at_least below ∙ ap (λ (n : ℕ). remainder_from divisor k (bit_xor 0 (value_of ys * 2 ^ (k - n))) (replicate n false)) lys
      ∙ ap (λ (x : ℕ). remainder_from divisor k (bit_xor 0 x) (replicate k false)) (whole (value_of ys) ∙ vys) ∙ ap (λ (x : ℕ). remainder_from divisor k x (replicate k false)) (xor_zero_l y) in
      left ∙ sym right

-- ---- tables

unfoldable pub walk : (ℕ → ℕ) → ℕ → List ℕ → Bool
walk f i [] = true
walk f i (x ∷ xs) = (x == f i) && walk f (suc i) xs

walk_at : (f : ℕ → ℕ) (i : ℕ) (xs : List ℕ) (j : ℕ) → walk f i xs ≡ true → j < length xs → get_or xs j 0 ≡ f (i + j)
unfolding walk
walk_at f i [] j h l = absurd (omega arith)
walk_at f i (x ∷ xs) zero h l = eqb-true x (f i) (and_parts (x == f i) (walk f (suc i) xs) h).0 ∙ ap f (let e : i ≡ i + 0 = omega arith in e)
walk_at f i (x ∷ xs) (suc j) h l = walk_at f (suc i) xs j (and_parts (x == f i) (walk f (suc i) xs) h).1 (omega arith) ∙ ap f (let e : suc i + j ≡ i + suc j = omega arith in e)

unfoldable pub follows : (ℕ → ℕ) → List ℕ → List ℕ → Bool
follows f xs [] = true
follows f [] (y ∷ ys) = true
follows f (x ∷ xs) (y ∷ ys) = (y == f x) && follows f xs ys

follows_at : (f : ℕ → ℕ) (xs ys : List ℕ) (j : ℕ) → follows f xs ys ≡ true → j < length xs → j < length ys → get_or ys j 0 ≡ f (get_or xs j 0)
unfolding follows
follows_at f xs [] j h l m = absurd (omega arith)
follows_at f [] (y ∷ ys) j h l m = absurd (omega arith)
follows_at f (x ∷ xs) (y ∷ ys) zero h l m = eqb-true y (f x) (and_parts (y == f x) (follows f xs ys) h).0
follows_at f (x ∷ xs) (y ∷ ys) (suc j) h l m = follows_at f xs ys j (and_parts (y == f x) (follows f xs ys) h).1 (omega arith) (omega arith)

-- eight tables of 256, the first held against the division, each other one against the one before it
unfoldable pub is_table : ℕ → ℕ → List ℕ → Bool
is_table divisor k table =
    walk (left_of divisor k 0) 0 (take 256 table) && follows (λ x. remainder_from divisor k x (replicate 8 false)) table (drop 256 table)

left_of-suc : (divisor k j byte : ℕ) → remainder_from divisor k (left_of divisor k j byte) (replicate 8 false) ≡ left_of divisor k (suc j) byte
unfolding left_of
left_of-suc divisor k j byte =
    let zeros : replicate (8 * j) false ++ replicate 8 false ≡ replicate (8 * suc j) false = replicate-append-replicate (8 * j) 8 false ∙ ap (λ (n : ℕ). replicate n false) (let e : 8 * j + 8 ≡ 8 * suc j = omega arith in e) in
    sym (remainder_from-append divisor k 0 (bits_of 8 byte ++ replicate (8 * j) false) (replicate 8 false))
    ∙ ap (remainder_from divisor k 0) (append_assoc (bits_of 8 byte) (replicate (8 * j) false) (replicate 8 false) ∙ ap (λ (ys : List Bool). bits_of 8 byte ++ ys) zeros)

pub entry_of : (divisor k : ℕ) (table : List ℕ) → length table ≡ 2048 → is_table divisor k table ≡ true → (behind byte : ℕ) → behind < 8 → byte < 256
    → get_or table (256 * behind + byte) 0 ≡ left_of divisor k behind byte
unfolding is_table
entry_of divisor k table len h zero byte l m =
    let p = and_parts (walk (left_of divisor k 0) 0 (take 256 table)) (follows (λ x. remainder_from divisor k x (replicate 8 false)) table (drop 256 table)) h in
    let e : 256 * 0 + byte ≡ byte = omega arith in
    let z : 0 + byte ≡ byte = omega arith in
    ap (λ (i : ℕ). get_or table i 0) e ∙ sym (get_or-take 256 table byte 0 m) ∙ walk_at (left_of divisor k 0) 0 (take 256 table) byte p.0 (omega (arith, length-take 256 table)) ∙ ap (left_of divisor k 0) z
entry_of divisor k table len h (suc j) byte l m =
    let f : ℕ → ℕ = λ (x : ℕ). remainder_from divisor k x (replicate 8 false) in
    let p = and_parts (walk (left_of divisor k 0) 0 (take 256 table)) (follows f table (drop 256 table)) h in
    let e : 256 * suc j + byte ≡ 256 + (256 * j + byte) = omega arith in
    ap (λ (i : ℕ). get_or table i 0) e ∙ sym (get_or-drop 256 table (256 * j + byte) 0)
    ∙ follows_at f table (drop 256 table) (256 * j + byte) p.1 (omega arith) (omega (arith, length-drop 256 table))
    ∙ ap f (entry_of divisor k table len h j byte (omega arith) m) ∙ left_of-suc divisor k j byte

-- ---- both sums

-- the first eight of a list
pub eight : (xs : List ℕ) → 8 ≤ length xs
    → take 8 xs ≡ get_or xs 0 0 ∷ get_or xs 1 0 ∷ get_or xs 2 0 ∷ get_or xs 3 0 ∷ get_or xs 4 0 ∷ get_or xs 5 0 ∷ get_or xs 6 0 ∷ get_or xs 7 0 ∷ []
eight [] h = absurd (omega arith)
eight (a ∷ []) h = absurd (omega arith)
eight (a ∷ b ∷ []) h = absurd (omega arith)
eight (a ∷ b ∷ c ∷ []) h = absurd (omega arith)
eight (a ∷ b ∷ c ∷ d ∷ []) h = absurd (omega arith)
eight (a ∷ b ∷ c ∷ d ∷ e ∷ []) h = absurd (omega arith)
eight (a ∷ b ∷ c ∷ d ∷ e ∷ f ∷ []) h = absurd (omega arith)
eight (a ∷ b ∷ c ∷ d ∷ e ∷ f ∷ g ∷ []) h = absurd (omega arith)
eight (a ∷ b ∷ c ∷ d ∷ e ∷ f ∷ g ∷ h1 ∷ xs) h = refl

pub taken_in_8 : (r b : ℕ) (bytes : List ℕ) → r < 256 → b < 256 → remainder_from 0x107 8 r (bits (b ∷ bytes)) ≡ mixed 0x107 8 (bit_xor r b ∷ bytes)
unfolding bits
taken_in_8 r b bytes hr hb =
    let v : value_of (bits_of 8 b) ≡ b = value_of-bits_of 8 b ∙ mod-eq_of_lt hb in
    let vb : value_of (bits_of 8 b) < 2 ^ 8 = omega arith in
    let a = absorbed 0x107 8 (omega arith) (omega arith) (bits_of 8 b) r hr (length-bits_of 8 b) vb ∙ ap (λ (x : ℕ). remainder_from 0x107 8 0 (bits_of 8 (bit_xor r x))) v in
    remainder_from-append 0x107 8 r (bits_of 8 b) (bits bytes) ∙ ap (λ (x : ℕ). remainder_from 0x107 8 x (bits bytes)) a
    ∙ sym (remainder_from-append 0x107 8 0 (bits_of 8 (bit_xor r b)) (bits bytes)) ∙ remainder_from-mixed 0x107 8 (omega arith) (omega arith) (bit_xor r b ∷ bytes)

pub taken_in_16 : (r b c : ℕ) (bytes : List ℕ) → r < 65536 → b < 256 → c < 256
    → remainder_from 0x18005 16 r (bits (b ∷ c ∷ bytes)) ≡ mixed 0x18005 16 (bit_xor (r / 256) b ∷ bit_xor (r % 256) c ∷ bytes)
unfolding bits
taken_in_16 r b c bytes hr hb hc =
    let xs : List Bool = bits_of 8 b ++ bits_of 8 c in
    let lxs : length xs ≡ 16 = length-append (bits_of 8 b) (bits_of 8 c) ∙ omega (arith, length-bits_of 8 b, length-bits_of 8 c) in
    let vb : value_of (bits_of 8 b) ≡ b = value_of-bits_of 8 b ∙ mod-eq_of_lt hb in
    let vc : value_of (bits_of 8 c) ≡ c = value_of-bits_of 8 c ∙ mod-eq_of_lt hc in
    let v : value_of xs ≡ b * 2 ^ 8 + c =
    value_of-append (bits_of 8 b) (bits_of 8 c) ∙ ap (λ (n : ℕ). value_of (bits_of 8 b) * 2 ^ n + value_of (bits_of 8 c)) (length-bits_of 8 c) ∙ ap (λ (x : ℕ). x * 2 ^ 8 + value_of (bits_of 8 c)) vb ∙ ap (λ (x : ℕ). b * 2 ^ 8 + x) vc in
    let small : value_of xs < 2 ^ 16 = omega arith in
    let high : ℕ = bit_xor (r / 256) b in
    let low : ℕ = bit_xor (r % 256) c in
    let lowest : low < 2 ^ 8 = xor_lt 8 (r % 256) c (omega arith) hc in
    let r-is : r / 256 * 2 ^ 8 + r % 256 ≡ r = omega arith in
    let y : bit_xor r (value_of xs) ≡ high * 2 ^ 8 + low =
    ap (bit_xor r) v ∙ ap (λ (x : ℕ). bit_xor x (b * 2 ^ 8 + c)) (sym r-is) ∙ xor_block 8 (r / 256) b (r % 256) c (omega arith) hc in
    let a : remainder_from 0x18005 16 r xs ≡ remainder_from 0x18005 16 0 (bits_of 8 high ++ bits_of 8 low) =
    absorbed 0x18005 16 (omega arith) (omega arith) xs r hr lxs small ∙ ap (λ (x : ℕ). remainder_from 0x18005 16 0 (bits_of 16 x)) y ∙ ap (remainder_from 0x18005 16 0) (bits_of-add 8 8 high low lowest) in
    ap (remainder_from 0x18005 16 r) (sym (append_assoc (bits_of 8 b) (bits_of 8 c) (bits bytes)))
    ∙ remainder_from-append 0x18005 16 r xs (bits bytes) ∙ ap (λ (x : ℕ). remainder_from 0x18005 16 x (bits bytes)) a
    ∙ sym (remainder_from-append 0x18005 16 0 (bits_of 8 high ++ bits_of 8 low) (bits bytes)) ∙ ap (remainder_from 0x18005 16 0) (append_assoc (bits_of 8 high) (bits_of 8 low) (bits bytes))
    ∙ remainder_from-mixed 0x18005 16 (omega arith) (omega arith) (high ∷ low ∷ bytes)

xor_both : (a b c d : ℕ) → a ≡ b → c ≡ d → bit_xor a c ≡ bit_xor b d
xor_both a b c d e f = ap (λ (x : ℕ). bit_xor x c) e ∙ ap (bit_xor b) f

-- what eight bytes leave, as the code takes it together: the last byte first
pub eight_mixed : (divisor k a b c d e f g h : ℕ) (r0 r1 r2 r3 r4 r5 r6 r7 : ℕ)
    → r0 ≡ left_of divisor k 0 h → r1 ≡ left_of divisor k 1 g → r2 ≡ left_of divisor k 2 f → r3 ≡ left_of divisor k 3 e
    → r4 ≡ left_of divisor k 4 d → r5 ≡ left_of divisor k 5 c → r6 ≡ left_of divisor k 6 b → r7 ≡ left_of divisor k 7 a
    → bit_xor (bit_xor (bit_xor (bit_xor (bit_xor (bit_xor (bit_xor r0 r1) r2) r3) r4) r5) r6) r7 ≡ mixed divisor k (a ∷ b ∷ c ∷ d ∷ e ∷ f ∷ g ∷ h ∷ [])
eight_mixed divisor k a b c d e f g h r0 r1 r2 r3 r4 r5 r6 r7 e0 e1 e2 e3 e4 e5 e6 e7 =
    let f0 : r0 ≡ mixed divisor k (h ∷ []) = e0 ∙ sym (xor_zero_l (left_of divisor k 0 h)) in
    let f1 : bit_xor r0 r1 ≡ mixed divisor k (g ∷ h ∷ []) = xor_both _ _ _ _ f0 e1 in
    let f2 = xor_both _ _ _ _ f1 e2 in
    let f3 = xor_both _ _ _ _ f2 e3 in
    let f4 = xor_both _ _ _ _ f3 e4 in
    let f5 = xor_both _ _ _ _ f4 e5 in
    let f6 = xor_both _ _ _ _ f5 e6 in
    xor_both _ _ _ _ f6 e7

-- a byte more of the longer sum
pub one_to_16 : (r b left : ℕ) → r < 65536 → b < 256 → left ≡ left_of 0x18005 16 0 (bit_xor (r / 256) b) → bit_xor left (bit_and r 255 * 256 % 65536) ≡ remainder_from 0x18005 16 r (bits_of 8 b)
unfolding left_of
one_to_16 r b left hr hb e =
    let t : ℕ = bit_xor (r / 256) b in
    let tl : t < 2 ^ 8 = xor_lt 8 (r / 256) b (omega arith) hb in
    let none : 0 < 2 ^ 16 = omega arith in
    let vt : value_of (bits_of 8 t) ≡ t = value_of-bits_of 8 t ∙ mod-eq_of_lt tl in
    let first : remainder_from 0x18005 16 0 (bits_of 8 t ++ replicate (8 * 0) false) ≡ remainder_from 0x18005 16 (t * 2 ^ 8) (replicate 8 false) =
    remainder_from-append 0x18005 16 0 (bits_of 8 t) (replicate (8 * 0) false) ∙ brought_early 0x18005 16 (bits_of 8 t) 0 none (omega (arith, length-bits_of 8 t)) (omega arith) (omega arith)
    ∙ ap (λ (n : ℕ). remainder_from 0x18005 16 (bit_xor 0 (value_of (bits_of 8 t) * 2 ^ (16 - n))) (replicate n false)) (length-bits_of 8 t)
    ∙ ap (λ (x : ℕ). remainder_from 0x18005 16 (bit_xor 0 (x * 2 ^ 8)) (replicate 8 false)) vt ∙ ap (λ (x : ℕ). remainder_from 0x18005 16 x (replicate 8 false)) (xor_zero_l (t * 2 ^ 8)) in
    let low : bit_and r 255 * 256 % 65536 ≡ r % 2 ^ 8 * 2 ^ 8 = let m : bit_and r 255 ≡ r % 2 ^ 8 = and_mask r 8 in omega arith in
    xor_both left (remainder_from 0x18005 16 (t * 2 ^ 8) (replicate 8 false)) (bit_and r 255 * 256 % 65536) (r % 2 ^ 8 * 2 ^ 8) (e ∙ first) low
    ∙ sym (by_table 0x18005 16 r b (omega arith) hr hb (omega arith) (omega arith))

-- ---- the loops

pub eight_on : (divisor k r next : ℕ) (xs : List ℕ) (total : ℕ) → next ≡ remainder_from divisor k r (bits (take 8 xs)) → remainder_from divisor k r (bits xs) ≡ total → remainder_from divisor k next (bits (take (length xs - 8) (drop 8 xs))) ≡ total
eight_on divisor k r next xs total n e =
    ap (λ (ys : List ℕ). remainder_from divisor k next (bits ys)) (take_rest xs 8) ∙ ap (λ (x : ℕ). remainder_from divisor k x (bits (drop 8 xs))) n
    ∙ sym (ap (remainder_from divisor k r) (ap bits (sym (take-append-drop 8 xs)) ∙ bits-append (take 8 xs) (drop 8 xs)) ∙ remainder_from-append divisor k r (bits (take 8 xs)) (bits (drop 8 xs))) ∙ e

pub one_on : (divisor k r next i : ℕ) (xs : List ℕ) (total : ℕ) → i < length xs → next ≡ remainder_from divisor k r (bits_of 8 (get_or xs i 0)) → remainder_from divisor k r (bits (drop i xs)) ≡ total → remainder_from divisor k next (bits (drop (i + 1) xs)) ≡ total
unfolding bits
one_on divisor k r next i xs total lt n e =
    ap (λ (x : ℕ). remainder_from divisor k x (bits (drop (i + 1) xs))) n ∙ sym (remainder_from-append divisor k r (bits_of 8 (get_or xs i 0)) (bits (drop (i + 1) xs)))
    ∙ sym (ap (λ (ys : List ℕ). remainder_from divisor k r (bits ys)) (drop_more xs i 0 lt)) ∙ e

pub none_on : (divisor k r i : ℕ) (xs : List ℕ) (total : ℕ) → length xs ≤ i → remainder_from divisor k r (bits (drop i xs)) ≡ total → r ≡ total
unfolding bits
none_on divisor k r i xs total le e = sym (ap (λ (ys : List ℕ). remainder_from divisor k r (bits ys)) (drop_all i xs le)) ∙ e

-- a byte by itself of the shorter sum
pub one_to_8 : (r b : ℕ) → r < 256 → b < 256 → left_of 0x107 8 0 (bit_xor r b) ≡ remainder_from 0x107 8 r (bits_of 8 b)
one_to_8 r b hr hb = sym (ap (remainder_from 0x107 8 r) (sym (bits-one b)) ∙ taken_in_8 r b [] hr hb ∙ xor_zero_l (left_of 0x107 8 0 (bit_xor r b)))
