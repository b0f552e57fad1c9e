-- Zeros at the front of a word, and of the bits that it was made of.
use Rattle.std.proofs.Common.{◌≡◌, ℕ, zero, suc, ◌+◌, ◌-◌, ◌*◌, ◌%◌, ◌^◌, ◌<◌, ◌≤◌, ◌⊎◌, Bool, true, false, List, [], ◌∷◌, ◌++◌, length, take, drop, refl, sym, ap, subst, ◌∙◌, inl, inr, arith, append_assoc, length-append, length-drop}
use Rattle.std.specs.Prelude.{replicate}
use Rattle.std.proofs.Math.Nat.{pow-suc, pow-le-pow_right, mul-lt-mul_of_pos_right}
use Rattle.std.proofs.lemmas.Nat.{pow_pos, pow-add, mod_low, leading_length}
use lib.Count.{count_leading_zeros}
use Rattle.std.proofs.lemmas.List.{length-take, length-replicate, take-append-drop, take-append-le, drop-append-le, drop-take, take-take, take-replicate, take_at, replicate-append-replicate}
use Rattle.ff_bits.specs.Bits.{digit, value_of, bits}
use Rattle.ff_bits.proofs.BitsLemmas.{value_from-split, value_below, length-bits, bits-append, take-bits}
use Rattle.ff_bits.proofs.Words.{value_of-append}
use Rattle.ff_bits.proofs.Peek.{eight_zeros}

-- a bit more at the front
pub value_of-cons : (b : Bool) (xs : List Bool) → value_of (b ∷ xs) ≡ digit b * 2 ^ length xs + value_of xs
value_of-cons b xs = value_from-split (2 * 0 + digit b) xs ∙ (let e : (2 * 0 + digit b) * 2 ^ length xs + value_of xs ≡ digit b * 2 ^ length xs + value_of xs = ap (λ (y : ℕ). y * 2 ^ length xs + value_of xs) (let f : 2 * 0 + digit b ≡ digit b = omega arith in f) in e)

pub value_of-zeros : (n : ℕ) → value_of (replicate n false) ≡ 0
value_of-zeros zero = refl
value_of-zeros (suc n) = value_of-cons false (replicate n false) ∙ omega (arith, value_of-zeros n)

-- where a number has m digits at most, and m unless it is 0, z zeros stand before them
abbrev pub IsFrontOf : ℕ → ℕ → List Bool → Type 0
IsFrontOf z m xs = (xs ≡ replicate z false ++ drop z xs) × ((m ≡ 0) ⊎ (xs ≡ replicate z false ++ true ∷ drop (z + 1) xs))

pub front_of : (xs : List Bool) (z m : ℕ) → z + m ≡ length xs → value_of xs < 2 ^ m → 2 ^ m ≤ 2 * value_of xs + 1 → IsFrontOf z m xs
front_of [] zero m e below above = (refl, inl (omega arith))
front_of [] (suc z) m e below above = absurd (omega arith)
front_of (true ∷ xs) zero m e below above = (refl, inr refl)
front_of (true ∷ xs) (suc z) m e below above =
    let two : 0 < 2 = omega arith in
    let le : m ≤ length xs = omega arith in
    let p : 2 ^ m ≤ 2 ^ length xs = pow-le-pow_right two le in
    let v = value_of-cons true xs in
    absurd (omega arith)
front_of (false ∷ xs) zero m e below above =
    let v = value_of-cons false xs in
    let low = value_below xs in
    let m-is : m ≡ suc (length xs) = omega arith in
    let p : 2 ^ m ≡ 2 ^ length xs * 2 = ap (λ (k : ℕ). 2 ^ k) m-is ∙ pow-suc 2 (length xs) in
    absurd (omega arith)
front_of (false ∷ xs) (suc z) m e below above =
    let v = value_of-cons false xs in
    let next : suc (z + 1) ≡ suc z + 1 = omega arith in
    let rest = front_of xs z m (omega arith) (omega arith) (omega arith) in
    (ap (λ (ys : List Bool). false ∷ ys) rest.0, elim rest.1 [ inl n ↦ inl n | inr y ↦ inr (subst (λ (k : ℕ). false ∷ xs ≡ replicate (suc z) false ++ true ∷ drop k (false ∷ xs)) next (ap (λ (ys : List Bool). false ∷ ys) y)) ])

-- the zeros at the front of a word, by its bits
pub front_in : (xs : List Bool) (s : ℕ) → length xs ≡ 64 → s ≡ value_of xs → (m : ℕ) × IsFrontOf (count_leading_zeros 64 s) m xs × (count_leading_zeros 64 s + m ≡ 64)
front_in xs s len e =
    let below : s < 2 ^ 64 = subst (λ (k : ℕ). s < 2 ^ k) len (subst (λ (v : ℕ). v < 2 ^ length xs) (sym e) (value_below xs)) in
    let t = leading_length 64 s below in
    (t.0, front_of xs (count_leading_zeros 64 s) t.0 (t.1 ∙ sym len) (subst (λ (v : ℕ). v < 2 ^ t.0) e t.2) (subst (λ (v : ℕ). 2 ^ t.0 ≤ 2 * v + 1) e t.3), t.1)

-- a word moved left
pub shifted_left : (n : ℕ) (xs : List Bool) → length xs ≡ 64 → n ≤ 64 → (value_of xs * 2 ^ n) % 2 ^ 64 ≡ value_of (drop n xs ++ replicate n false)
shifted_left n xs len le =
    let back : List Bool = drop n xs in
    let front : List Bool = take n xs in
    let lb : length back ≡ 64 - n = omega (arith, length-drop n xs) in
    let parts : value_of xs ≡ value_of front * 2 ^ (64 - n) + value_of back = ap value_of (sym (take-append-drop n xs)) ∙ value_of-append front back ∙ ap (λ (k : ℕ). value_of front * 2 ^ k + value_of back) lb in
    let p : 2 ^ (64 - n) * 2 ^ n ≡ 2 ^ 64 = sym (pow-add 2 (64 - n) n) ∙ ap (λ (k : ℕ). 2 ^ k) (let e : 64 - n + n ≡ 64 = omega arith in e) in
    let product : value_of xs * 2 ^ n ≡ value_of front * 2 ^ 64 + value_of back * 2 ^ n =
    ap (λ (x : ℕ). x * 2 ^ n) parts ∙ (let e : (value_of front * 2 ^ (64 - n) + value_of back) * 2 ^ n ≡ value_of front * (2 ^ (64 - n) * 2 ^ n) + value_of back * 2 ^ n = omega arith in e) ∙ ap (λ (k : ℕ). value_of front * k + value_of back * 2 ^ n) p in
    let low0 : value_of back < 2 ^ (64 - n) = subst (λ (k : ℕ). value_of back < 2 ^ k) lb (value_below back) in
    let low : value_of back * 2 ^ n < 2 ^ 64 = subst (λ (y : ℕ). value_of back * 2 ^ n < y) p (mul-lt-mul_of_pos_right low0 (pow_pos n)) in
    let behind : value_of (back ++ replicate n false) ≡ value_of back * 2 ^ n =
    value_of-append back (replicate n false) ∙ ap (λ (k : ℕ). value_of back * 2 ^ k + value_of (replicate n false)) (length-replicate n false) ∙ omega (arith, value_of-zeros n) in
    ap (λ (x : ℕ). x % 2 ^ 64) product ∙ mod_low (value_of front) 64 (value_of back * 2 ^ n) low ∙ sym behind

-- bits that begin as others do, which begin with zeros and a one
pub like_one : (z : ℕ) (ys xs : List Bool) → take (z + 1) ys ≡ take (z + 1) xs → xs ≡ replicate z false ++ true ∷ drop (z + 1) xs → ys ≡ replicate z false ++ true ∷ drop (z + 1) ys
like_one z ys xs same e =
    let zs : List Bool = replicate z false ++ true ∷ [] in
    let behind : List Bool = drop (z + 1) xs in
    let lz : length zs ≡ z + 1 = length-append (replicate z false) (true ∷ []) ∙ omega (arith, length-replicate z false) in
    let split : xs ≡ zs ++ behind = e ∙ sym (append_assoc (replicate z false) (true ∷ []) behind) in
    let t : take (z + 1) ys ≡ zs = same ∙ ap (take (z + 1)) split ∙ take_at zs behind (z + 1) lz in
    sym (take-append-drop (z + 1) ys) ∙ ap (λ (m : List Bool). m ++ drop (z + 1) ys) t ∙ append_assoc (replicate z false) (true ∷ []) (drop (z + 1) ys)

-- bits that begin as others do, which begin with zeros
pub like_zeros : (z n : ℕ) (ys xs : List Bool) → n ≤ z → take n ys ≡ take n xs → xs ≡ replicate z false ++ drop z xs → ys ≡ replicate n false ++ drop n ys
like_zeros z n ys xs le same e =
    let lz : n ≤ length (replicate z false) = omega (arith, length-replicate z false) in
    let t : take n ys ≡ replicate n false = same ∙ ap (take n) e ∙ take-append-le n (replicate z false) (drop z xs) lz ∙ take-replicate n z false le in
    sym (take-append-drop n ys) ∙ ap (λ (m : List Bool). m ++ drop n ys) t

-- the bits of the word from a reader's place on, filled up with zeros
abbrev pub seen : ℕ → List ℕ → List Bool
seen used bytes = drop used (bits (take 8 (bytes ++ replicate 8 0))) ++ replicate used false

module _ (used : ℕ) (bytes : List ℕ) (few : used < 8) where
  xs : List ℕ
  xs = bytes ++ eight_zeros

  in_word : List Bool
  in_word = bits (take 8 (bytes ++ replicate 8 0))

  length-in_word : length in_word ≡ 64
  unfolding in_word
  length-in_word = omega (arith, length-bits (take 8 (bytes ++ eight_zeros)), length-take 8 (bytes ++ eight_zeros), length-append bytes eight_zeros, length-replicate {A = ℕ} 8 0)

  pub length-seen : length (seen used bytes) ≡ 64
  unfolding in_word
  length-seen = length-append (drop used in_word) (replicate used false) ∙ omega (arith, length-drop used in_word, length-in_word, length-replicate {A = Bool} used false)

  pub shifted : (word : ℕ) → word ≡ value_of (bits (take 8 (bytes ++ replicate 8 0))) → (word * 2 ^ used) % 2 ^ 64 ≡ value_of (seen used bytes)
  unfolding in_word
  shifted word w = ap (λ (x : ℕ). (x * 2 ^ used) % 2 ^ 64) w ∙ shifted_left used in_word length-in_word (omega arith)

  -- bits that are there are those of the word
  pub same_front : (n : ℕ) → used + n ≤ 64 → used + n ≤ 8 * length bytes → take n (drop used (bits bytes)) ≡ take n (seen used bytes)
  unfolding in_word
  same_front n h there =
      let ys : List Bool = bits (bytes ++ eight_zeros) in
      let long : 8 ≤ length (bytes ++ eight_zeros) = omega (arith, length-append bytes eight_zeros, length-replicate {A = ℕ} 8 0) in
      let front : used ≤ length (bits bytes) = omega (arith, length-bits bytes) in
      let back : n ≤ length (drop used (bits bytes)) = omega (arith, length-bits bytes, length-drop used (bits bytes)) in
      let wide : n ≤ length (drop used in_word) = omega (arith, length-drop used in_word, length-in_word) in
      let sixty_four : used + (64 - used) ≡ 64 = omega arith in
      let right : take n (seen used bytes) ≡ take n (drop used ys) =
      take-append-le n (drop used in_word) (replicate used false) wide
      ∙ ap (λ (m : List Bool). take n (drop used m)) (sym (take-bits 8 (bytes ++ eight_zeros) long))
      ∙ ap (λ (k : ℕ). take n (drop used (take k ys))) (sym sixty_four)
      ∙ ap (take n) (drop-take used (64 - used) ys)
      ∙ take-take n (64 - used) (drop used ys) (omega arith) in
      let left : take n (drop used ys) ≡ take n (drop used (bits bytes)) =
      ap (λ (m : List Bool). take n (drop used m)) (bits-append bytes eight_zeros)
      ∙ ap (take n) (drop-append-le used (bits bytes) (bits eight_zeros) front)
      ∙ take-append-le n (drop used (bits bytes)) (bits eight_zeros) back in
      sym (right ∙ left)

  -- z zeros at the front of the word
  pub front_seen : (s : ℕ) → s ≡ value_of (seen used bytes) → (m : ℕ) × IsFrontOf (count_leading_zeros 64 s) m (seen used bytes) × (count_leading_zeros 64 s + m ≡ 64)
  front_seen s e = front_in (seen used bytes) s length-seen e

  -- a one behind fewer zeros than there are bits
  pub one_behind : (z there : ℕ) → z < there → used + there ≤ 64 → used + there ≤ 8 * length bytes → seen used bytes ≡ replicate z false ++ true ∷ drop (z + 1) (seen used bytes)
      → drop used (bits bytes) ≡ replicate z false ++ true ∷ drop (z + 1) (drop used (bits bytes))
  one_behind z there lt h k e =
      like_one z (drop used (bits bytes)) (seen used bytes) (same_front (z + 1) (omega arith) (omega arith)) e

  -- no one in the bits of the word that are there
  pub none_there : (z there : ℕ) → there ≤ z → used + there ≤ 64 → used + there ≤ 8 * length bytes → seen used bytes ≡ replicate z false ++ drop z (seen used bytes)
      → drop used (bits bytes) ≡ replicate there false ++ drop there (drop used (bits bytes))
  none_there z there le h k e = like_zeros z there (drop used (bits bytes)) (seen used bytes) le (same_front there h k) e

pub further_zeros : (n m : ℕ) (whole now rest : List Bool) → whole ≡ replicate n false ++ now → now ≡ replicate m false ++ rest → whole ≡ replicate (n + m) false ++ rest
further_zeros n m whole now rest e f =
    e ∙ ap (λ (ys : List Bool). replicate n false ++ ys) f ∙ sym (append_assoc (replicate n false) (replicate m false) rest) ∙ ap (λ (ys : List Bool). ys ++ rest) (replicate-append-replicate n m false)

-- a one stands in one place alone behind zeros
pub no_one_yet : (z : ℕ) (a b : List Bool) → replicate (suc z) false ++ a ≡ replicate z false ++ true ∷ b → ⊥
no_one_yet zero a b e = cc
no_one_yet (suc z) a b e = no_one_yet z a b (cc)
