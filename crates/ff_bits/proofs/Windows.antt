-- A word that shows the next bits of a list.
use Rattle.std.proofs.Common.{◌≡◌, ℕ, zero, suc, ◌+◌, ◌-◌, ◌*◌, ◌/◌, ◌%◌, ◌^◌, ◌<◌, ◌≤◌, Bool, true, false, List, [], ◌∷◌, ◌++◌, length, take, drop, min, refl, sym, ap, subst, ◌∙◌, inl, inr, arith, append_assoc, length-append, length-drop, bit_and, bit_or}
use Rattle.std.specs.Prelude.{replicate}
use lib.Count.{count_leading_zeros}
use Rattle.std.specs.Int.Bits.{or_self}
use Rattle.std.proofs.Math.Seq.{take-add, take-length}
use Rattle.std.proofs.lemmas.Nat.{shr_high, or_block, or_shifted, and_mask, one_shl}
use Rattle.std.proofs.lemmas.Bool.{cases_lt}
use Rattle.std.proofs.lemmas.List.{append-nil, take_rest, length-take, length-replicate, take-append-drop, take-append-le, drop-append-le, drop-drop, drop-take, take-take, take-replicate, replicate-append-replicate}
use Rattle.ff_bits.specs.Bits.{value_of, bits_of, bits}
use Rattle.ff_bits.specs.laws.Reads.{IsCounted, IsCoded}
use Rattle.ff_bits.specs.laws.Window.{shown, IsWindow}
use Rattle.ff_bits.proofs.BitsLemmas.{value_below, length-bits, bits-append, drop-bits, take-bits}
use Rattle.ff_bits.proofs.Words.{value_of-append, window}
use Rattle.ff_bits.proofs.Peek.{eight_zeros}
use Rattle.ff_bits.proofs.Zeros.{value_of-zeros, front_in, shifted_left, like_one, like_zeros, no_one_yet, seen, shifted}

module _ (list : List Bool) (n : ℕ) (fits : n ≤ 64) (there : n ≤ length list) where
  length-front : length (take n list) ≡ n
  length-front = omega (arith, length-take n list)

  pub length-shown : length (shown n list) ≡ 64
  length-shown = length-append (take n list) (replicate (64 - n) false) ∙ omega (arith, length-front, length-replicate {A = Bool} (64 - n) false)

  -- the list begins as the word does
  pub same : (m : ℕ) → m ≤ n → take m list ≡ take m (shown n list)
  same m le =
      let enough : m ≤ length (take n list) = omega (arith, length-front) in
      sym (take-append-le m (take n list) (replicate (64 - n) false) enough ∙ take-take m n list le)

  drop-shown : (m : ℕ) → m ≤ n → drop m (shown n list) ≡ take (n - m) (drop m list) ++ replicate (64 - n) false
  drop-shown m le =
      let enough : m ≤ length (take n list) = omega (arith, length-front) in
      let parts : m + (n - m) ≡ n = omega arith in
      drop-append-le m (take n list) (replicate (64 - n) false) enough
      ∙ ap (λ (xs : List Bool). xs ++ replicate (64 - n) false) (ap (λ (k : ℕ). drop m (take k list)) (sym parts) ∙ drop-take m (n - m) list)

  -- zeros at the front, and a one within what is shown
  pub counted : (word : ℕ) → word ≡ value_of (shown n list) → count_leading_zeros 64 word + 1 ≤ n
      → IsCounted list (count_leading_zeros 64 word) (drop (count_leading_zeros 64 word + 1) list)
  counted word w le =
      let z : ℕ = count_leading_zeros 64 word in
      let f = front_in (shown n list) word length-shown w in
      let one : shown n list ≡ replicate z false ++ true ∷ drop (z + 1) (shown n list) = elim f.1.1 [ inl none ↦ absurd (omega arith) | inr y ↦ y ] in
      like_one z list (shown n list) (same (z + 1) le) one

  -- no one so near
  pub no_one : (word zeros : ℕ) → word ≡ value_of (shown n list) → zeros + 1 ≤ n → zeros < count_leading_zeros 64 word → IsCounted list zeros (drop (zeros + 1) list) → ⊥
  no_one word zeros w le more e =
      let z : ℕ = count_leading_zeros 64 word in
      let f = front_in (shown n list) word length-shown w in
      let front : list ≡ replicate (zeros + 1) false ++ drop (zeros + 1) list = like_zeros z (zeros + 1) list (shown n list) (omega arith) (same (zeros + 1) le) f.1.0 in
      let next : zeros + 1 ≡ suc zeros = omega arith in
      no_one_yet zeros (drop (zeros + 1) list) (drop (zeros + 1) list) (subst (λ (k : ℕ). replicate k false ++ drop (zeros + 1) list ≡ replicate zeros false ++ true ∷ drop (zeros + 1) list) next (sym front ∙ e))

  -- some bits in the middle
  pub middle : (word p m : ℕ) → word ≡ value_of (shown n list) → p + m ≤ n → word / 2 ^ (64 - (p + m)) % 2 ^ m ≡ value_of (take m (drop p list))
  middle word p m w le =
      let whole : length (shown n list) ≡ p + m + (64 - (p + m)) = omega (arith, length-shown) in
      let len : m ≤ length (take (n - p) (drop p list)) = omega (arith, length-take (n - p) (drop p list), length-drop p list) in
      ap (λ (x : ℕ). x / 2 ^ (64 - (p + m)) % 2 ^ m) w
      ∙ sym (window m p (64 - (p + m)) (shown n list) whole)
      ∙ ap (λ (xs : List Bool). value_of (take m xs)) (drop-shown p (omega arith))
      ∙ ap value_of (take-append-le m (take (n - p) (drop p list)) (replicate (64 - n) false) len ∙ take-take m (n - p) (drop p list) (omega arith))

  -- the word behind some bits
  pub moved_on : (word m : ℕ) → word ≡ value_of (shown n list) → m ≤ n → (word * 2 ^ m) % 2 ^ 64 ≡ value_of (shown (n - m) (drop m list))
  moved_on word m w le =
      let count : 64 - n + m ≡ 64 - (n - m) = omega arith in
      ap (λ (x : ℕ). (x * 2 ^ m) % 2 ^ 64) w
      ∙ shifted_left m (shown n list) length-shown (omega arith)
      ∙ ap (λ (xs : List Bool). value_of (xs ++ replicate m false)) (drop-shown m le)
      ∙ ap value_of (append_assoc (take (n - m) (drop m list)) (replicate (64 - n) false) (replicate m false))
      ∙ ap (λ (xs : List Bool). value_of (take (n - m) (drop m list) ++ xs)) (replicate-append-replicate (64 - n) m false)
      ∙ ap (λ (k : ℕ). value_of (take (n - m) (drop m list) ++ replicate k false)) count

-- ---- more bits

or_both : (m g e : ℕ) → e < 2 ^ m → bit_or (g * 2 ^ m) (g * 2 ^ m + e) ≡ g * 2 ^ m + e
or_both m g e low =
    let none : 0 < 2 ^ m = omega arith in
    let block : bit_or (g * 2 ^ m + 0) (g * 2 ^ m + e) ≡ bit_or g g * 2 ^ m + bit_or 0 e = or_block m g g 0 e none low in
    let right : bit_or 0 e ≡ e = ap (λ (x : ℕ). bit_or x e) (let s : 0 ≡ 0 * 2 ^ m = omega arith in s) ∙ or_shifted 0 m e low ∙ (let s : 0 * 2 ^ m + e ≡ e = omega arith in s) in
    ap (λ (x : ℕ). bit_or x (g * 2 ^ m + e)) (let s : g * 2 ^ m ≡ g * 2 ^ m + 0 = omega arith in s) ∙ block ∙ ap (λ (x : ℕ). x * 2 ^ m + bit_or 0 e) (or_self g) ∙ ap (λ (x : ℕ). g * 2 ^ m + x) right

or_behind : (k a r s : ℕ) → r < 2 ^ k → s < 2 ^ k → bit_or (a * 2 ^ k + r) s ≡ a * 2 ^ k + bit_or r s
or_behind k a r s hr hs =
    let block : bit_or (a * 2 ^ k + r) (0 * 2 ^ k + s) ≡ bit_or a 0 * 2 ^ k + bit_or r s = or_block k a 0 r s hr hs in
    let one : 0 < 2 ^ 0 = omega arith in
    let left : bit_or a 0 ≡ a = ap (λ (x : ℕ). bit_or x 0) (let s : a ≡ a * 2 ^ 0 = omega arith in s) ∙ or_shifted a 0 0 one ∙ (let s : a * 2 ^ 0 + 0 ≡ a = omega arith in s) in
    ap (λ (x : ℕ). bit_or (a * 2 ^ k + r) x) (let e : s ≡ 0 * 2 ^ k + s = omega arith in e) ∙ block ∙ ap (λ (x : ℕ). x * 2 ^ k + bit_or r s) left

-- a word that shows n bits, of which `held` count, and the 64 bits behind those that count
pub filled_up : (list : List Bool) (n held word next : ℕ) → n ≤ 64 → held ≤ n → 64 + held ≤ length list → word ≡ value_of (shown n list) → next ≡ value_of (take 64 (drop held list))
    → bit_or word (next / 2 ^ held) ≡ value_of (shown 64 list)
filled_up list n held word next fits all long w x =
    let a : List Bool = take held list in
    let d : List Bool = take (64 - held) (drop held list) in
    let g : List Bool = take (n - held) (drop held list) in
    let e : List Bool = drop (n - held) d in
    let m : ℕ = 64 - n in
    let zs : List Bool = replicate m false in
    let sizes : (length d ≡ 64 - held) × (length g ≡ n - held) × (length e ≡ m) × (length (g ++ zs) ≡ 64 - held) =
    let ld : length d ≡ 64 - held = omega (arith, length-take (64 - held) (drop held list), length-drop held list) in
    let lg : length g ≡ n - held = omega (arith, length-take (n - held) (drop held list), length-drop held list) in
    (ld, lg, omega (arith, length-drop (n - held) d), length-append g zs ∙ omega (arith, length-replicate {A = Bool} m false)) in
    let d-is : d ≡ g ++ e = sym (take-append-drop (n - held) d) ∙ ap (λ (xs : List Bool). xs ++ e) (take-take (n - held) (64 - held) (drop held list) (omega arith)) in
    let low : value_of e < 2 ^ m = subst (λ (k : ℕ). value_of e < 2 ^ k) sizes.2 (value_below e) in
    let d-value : value_of d ≡ value_of g * 2 ^ m + value_of e = ap value_of d-is ∙ value_of-append g e ∙ ap (λ (k : ℕ). value_of g * 2 ^ k + value_of e) sizes.2 in
    let g-value : value_of (g ++ zs) ≡ value_of g * 2 ^ m = value_of-append g zs ∙ ap (λ (k : ℕ). value_of g * 2 ^ k + value_of zs) (length-replicate m false) ∙ omega (arith, value_of-zeros m) in
    let g-low : value_of (g ++ zs) < 2 ^ (64 - held) = subst (λ (k : ℕ). value_of (g ++ zs) < 2 ^ k) sizes.3 (value_below (g ++ zs)) in
    let d-low : value_of d < 2 ^ (64 - held) = subst (λ (k : ℕ). value_of d < 2 ^ k) sizes.0 (value_below d) in
    -- the word
    let parts : held + (n - held) ≡ n = omega arith in
    let shown-is : shown n list ≡ a ++ (g ++ zs) = ap (λ (k : ℕ). take k list ++ zs) (sym parts) ∙ ap (λ (xs : List Bool). xs ++ zs) (take-add held (n - held) list) ∙ append_assoc a g zs in
    let word-is : word ≡ value_of a * 2 ^ (64 - held) + value_of (g ++ zs) = w ∙ ap value_of shown-is ∙ value_of-append a (g ++ zs) ∙ ap (λ (k : ℕ). value_of a * 2 ^ k + value_of (g ++ zs)) sizes.3 in
    -- what follows
    let back : List Bool = drop (64 - held) (take 64 (drop held list)) in
    let lb : length back ≡ held = omega (arith, length-drop (64 - held) (take 64 (drop held list)), length-take 64 (drop held list), length-drop held list) in
    let next-is : next ≡ value_of d * 2 ^ held + value_of back =
    x ∙ ap value_of (sym (take-append-drop (64 - held) (take 64 (drop held list)))) ∙ value_of-append (take (64 - held) (take 64 (drop held list))) back
    ∙ ap (λ (k : ℕ). value_of (take (64 - held) (take 64 (drop held list))) * 2 ^ k + value_of back) lb
    ∙ ap (λ (xs : List Bool). value_of xs * 2 ^ held + value_of back) (take-take (64 - held) 64 (drop held list) (omega arith)) in
    let high : next / 2 ^ held ≡ value_of d = ap (λ (y : ℕ). y / 2 ^ held) next-is ∙ shr_high (value_of d) held (value_of back) (subst (λ (k : ℕ). value_of back < 2 ^ k) lb (value_below back)) in
    -- both
    let joined : bit_or (value_of (g ++ zs)) (value_of d) ≡ value_of d = ap (λ (y : ℕ). bit_or y (value_of d)) g-value ∙ ap (λ (y : ℕ). bit_or (value_of g * 2 ^ m) y) d-value ∙ or_both m (value_of g) (value_of e) low ∙ sym d-value in
    let whole : held + (64 - held) ≡ 64 = omega arith in
    let full : value_of (shown 64 list) ≡ value_of a * 2 ^ (64 - held) + value_of d =
    ap value_of (append-nil (take 64 list)) ∙ ap (λ (k : ℕ). value_of (take k list)) (sym whole) ∙ ap value_of (take-add held (64 - held) list) ∙ value_of-append a d ∙ ap (λ (k : ℕ). value_of a * 2 ^ k + value_of d) sizes.0 in
    ap (λ (y : ℕ). bit_or y (next / 2 ^ held)) word-is ∙ ap (λ (y : ℕ). bit_or (value_of a * 2 ^ (64 - held) + value_of (g ++ zs)) y) high
    ∙ or_behind (64 - held) (value_of a) (value_of (g ++ zs)) (value_of d) g-low d-low ∙ ap (λ (y : ℕ). value_of a * 2 ^ (64 - held) + y) joined ∙ sym full

-- ---- the first word

bits-zeros : (n : ℕ) → bits (replicate n 0) ≡ replicate (8 * n) false
unfolding bits bits_of
bits-zeros zero = refl
bits-zeros (suc n) =
    let e : 8 + 8 * n ≡ 8 * suc n = omega arith in
    ap (λ (xs : List Bool). replicate 8 false ++ xs) (bits-zeros n) ∙ replicate-append-replicate 8 (8 * n) false ∙ ap (λ (k : ℕ). replicate k false) e

take-past : {A : Type 0} (n : ℕ) (xs ys : List A) → length xs ≤ n → take n (xs ++ ys) ≡ xs ++ take (n - length xs) ys
take-past n [] ys le = ap (λ (k : ℕ). take k ys) (let e : n ≡ n - 0 = omega arith in e)
take-past zero (x ∷ xs) ys le = absurd (omega arith)
take-past (suc n) (x ∷ xs) ys le =
    let count : n - length xs ≡ suc n - suc (length xs) = omega arith in
    ap (λ (zs : List _). x ∷ zs) (take-past n xs ys (omega arith)) ∙ ap (λ (k : ℕ). x ∷ (xs ++ take k ys)) count

-- a word from a reader's place on shows all bits that are left, of 64 less those before
pub first_long : (used : ℕ) (bytes : List ℕ) → used < 8 → 8 ≤ length bytes → seen used bytes ≡ shown (64 - used) (drop used (bits bytes))
first_long used bytes few long =
    let parts : used + (64 - used) ≡ 64 = omega arith in
    let count : 64 - (64 - used) ≡ used = omega arith in
    let in_word : bits (take 8 (bytes ++ eight_zeros)) ≡ take 64 (bits bytes) = ap bits (take-append-le 8 bytes eight_zeros long) ∙ sym (take-bits 8 bytes long) in
    ap (λ (xs : List Bool). drop used xs ++ replicate used false) (in_word ∙ ap (λ (k : ℕ). take k (bits bytes)) (sym parts))
    ∙ ap (λ (xs : List Bool). xs ++ replicate used false) (drop-take used (64 - used) (bits bytes))
    ∙ ap (λ (k : ℕ). take (64 - used) (drop used (bits bytes)) ++ replicate k false) (sym count)

pub first_short : (used : ℕ) (bytes : List ℕ) → used < 8 → used ≤ 8 * length bytes → length bytes < 8 → seen used bytes ≡ shown (8 * length bytes - used) (drop used (bits bytes))
first_short used bytes few there short =
    let left : List Bool = drop used (bits bytes) in
    let n : ℕ = 8 * length bytes - used in
    let len : length left ≡ n = omega (arith, length-drop used (bits bytes), length-bits bytes) in
    let m : ℕ = 8 - length bytes in
    let front : used ≤ length (bits bytes) = omega (arith, length-bits bytes) in
    let in_word : bits (take 8 (bytes ++ eight_zeros)) ≡ bits bytes ++ replicate (8 * m) false =
    ap bits (take-past 8 bytes eight_zeros (omega arith)) ∙ ap (λ (xs : List ℕ). bits (bytes ++ xs)) (take-replicate m 8 0 (omega arith)) ∙ bits-append bytes (replicate m 0) ∙ ap (λ (xs : List Bool). bits bytes ++ xs) (bits-zeros m) in
    let count : 8 * m + used ≡ 64 - n = omega arith in
    let all : left ≡ take n left = sym (take-length left) ∙ ap (λ (k : ℕ). take k left) len in
    ap (λ (xs : List Bool). drop used xs ++ replicate used false) in_word
    ∙ ap (λ (xs : List Bool). xs ++ replicate used false) (drop-append-le used (bits bytes) (replicate (8 * m) false) front)
    ∙ append_assoc left (replicate (8 * m) false) (replicate used false)
    ∙ ap (λ (xs : List Bool). left ++ xs) (replicate-append-replicate (8 * m) used false)
    ∙ ap (λ (k : ℕ). left ++ replicate k false) count
    ∙ ap (λ (xs : List Bool). xs ++ replicate (64 - n) false) all

-- ---- windows

pub first_window : (used at word : ℕ) (bytes : List ℕ) → used < 8 → used ≤ 8 * length bytes → at ≡ min (length bytes) 7 → word ≡ value_of (bits (take 8 (bytes ++ replicate 8 0)))
    → IsWindow bytes at ((word * 2 ^ used) % 2 ^ 64) (8 * at - used)
first_window used at word bytes few there at-is w =
    let place : used ≡ 8 * at - (8 * at - used) = omega arith in
    let shows : (n : ℕ) → seen used bytes ≡ shown n (drop used (bits bytes)) → (word * 2 ^ used) % 2 ^ 64 ≡ value_of (shown n (drop (8 * at - (8 * at - used)) (bits bytes))) =
    λ n e. shifted used bytes few word w ∙ ap value_of e ∙ ap (λ (k : ℕ). value_of (shown n (drop k (bits bytes)))) place in
    elim (cases_lt (length bytes) 8) [
      | inl short ↦ record {
        few = omega arith;
        before = omega arith;
        within = omega arith;
        seen = 8 * length bytes - used;
        all = omega arith;
        fits = omega arith;
        there = omega (arith, length-drop (8 * at - (8 * at - used)) (bits bytes), length-bits bytes);
        value = shows (8 * length bytes - used) (first_short used bytes few there short);
      }
      | inr long ↦ record {
        few = omega arith;
        before = omega arith;
        within = omega arith;
        seen = 64 - used;
        all = omega arith;
        fits = omega arith;
        there = omega (arith, length-drop (8 * at - (8 * at - used)) (bits bytes), length-bits bytes);
        value = shows (64 - used) (first_long used bytes few long);
      }
    ]

pub filled_window : (at word held next : ℕ) (bytes : List ℕ) → IsWindow bytes at word held → at + 8 ≤ length bytes → next ≡ value_of (bits (take 8 (take (length bytes - at) (drop at bytes) ++ replicate 8 0)))
    → IsWindow bytes (at + (63 - held) / 8) (bit_or word (next / 2 ^ held)) (held + 8 * ((63 - held) / 8))
filled_window at word held next bytes w room e =
    let few : held < 64 = w.few in
    let before : held ≤ 8 * at = w.before in
    let all : held ≤ w.seen = w.all in
    let more : ℕ = (63 - held) / 8 in
    let list : List Bool = drop (8 * at - held) (bits bytes) in
    let place : 8 * at - held ≡ 8 * (at + more) - (held + 8 * more) = omega arith in
    let long : 64 + held ≤ length list = omega (arith, length-drop (8 * at - held) (bits bytes), length-bits bytes) in
    let whole : 8 * at - held + held ≡ 8 * at = omega arith in
    let eight : 8 ≤ length (drop at bytes) = omega (arith, length-drop at bytes) in
    let behind : drop held list ≡ bits (drop at bytes) = drop-drop held (8 * at - held) (bits bytes) ∙ ap (λ (k : ℕ). drop k (bits bytes)) whole ∙ drop-bits at bytes (omega arith) in
    let next-is : next ≡ value_of (take 64 (drop held list)) =
    e ∙ ap (λ (xs : List ℕ). value_of (bits (take 8 (xs ++ replicate 8 0)))) (take_rest bytes at)
    ∙ ap (λ (xs : List ℕ). value_of (bits xs)) (take-append-le 8 (drop at bytes) eight_zeros eight)
    ∙ ap value_of (sym (take-bits 8 (drop at bytes) eight)) ∙ ap (λ (xs : List Bool). value_of (take 64 xs)) (sym behind) in
    record {
      few = omega arith;
      before = omega arith;
      within = omega arith;
      seen = 64;
      all = omega arith;
      fits = omega arith;
      there = subst (λ (k : ℕ). 64 ≤ length (drop k (bits bytes))) place (omega arith);
      value = filled_up list w.seen held word next w.fits all long w.value next-is ∙ ap (λ (k : ℕ). value_of (shown 64 (drop k (bits bytes)))) place;
    }

-- the word behind some bits that it holds
module _ (bytes : List ℕ) (at word held len : ℕ) (w : IsWindow bytes at word held) (le : len ≤ held) where
  pub place : 8 * at - (held - len) ≡ 8 * at - held + len
  place =
      let before : held ≤ 8 * at = w.before in
      omega arith

  pub window_behind : IsWindow bytes at ((word * 2 ^ len) % 2 ^ 64) (held - len)
  window_behind =
      let few : held < 64 = w.few in
      let before : held ≤ 8 * at = w.before in
      let all : held ≤ w.seen = w.all in
      let fits : w.seen ≤ 64 = w.fits in
      let list : List Bool = drop (8 * at - held) (bits bytes) in
      let there : w.seen ≤ length list = w.there in
      let behind : drop len list ≡ drop (8 * at - (held - len)) (bits bytes) = drop-drop len (8 * at - held) (bits bytes) ∙ ap (λ (k : ℕ). drop k (bits bytes)) (sym place) in
      record {
        few = omega arith;
        before = omega arith;
        within = w.within;
        seen = w.seen - len;
        all = omega arith;
        fits = omega arith;
        there = subst (λ (xs : List Bool). w.seen - len ≤ length xs) behind (omega (arith, length-drop len list));
        value = moved_on list w.seen fits there word len w.value (omega arith) ∙ ap (λ (xs : List Bool). value_of (shown (w.seen - len) xs)) behind;
      }

module _ (bytes : List ℕ) (at word held n high : ℕ) (w : IsWindow bytes at word held) (high-is : high + count_leading_zeros 64 word ≡ 63) (enough : 64 + n ≤ high + held) where
  abbrev list : List Bool
  list = drop (8 * at - held) (bits bytes)

  short : 64 + n - high ≤ held
  short = omega arith

  pub code_window : IsWindow bytes at ((word * 2 ^ (64 + n - high)) % 2 ^ 64) (held - (64 + n - high))
  code_window = window_behind bytes at word held (64 + n - high) w short

  pub code_read : n ≤ 57 → IsCoded n list (63 - high) (bit_and (word / 2 ^ (high - n)) ((1 * 2 ^ n) % 2 ^ 64 - 1)) (drop (8 * at - (held - (64 + n - high))) (bits bytes))
  code_read small =
      let few : held < 64 = w.few in
      let all : held ≤ w.seen = w.all in
      let fits : w.seen ≤ 64 = w.fits in
      let there : w.seen ≤ length list = w.there in
      let z : ℕ = count_leading_zeros 64 word in
      let z-is : z ≡ 63 - high = omega arith in
      let p : ℕ = 63 - high + 1 in
      let mask : (1 * 2 ^ n) % 2 ^ 64 ≡ 2 ^ n = one_shl n 64 (omega arith) in
      let shift : high - n ≡ 64 - (p + n) = omega arith in
      let len : p + n ≡ 64 + n - high = omega arith in (
        subst (λ (k : ℕ). IsCounted list k (drop (k + 1) list)) z-is (counted list w.seen fits there word w.value (omega arith)),
        record {
          enough = omega (arith, length-drop p list);
          value = ap (λ (m : ℕ). bit_and (word / 2 ^ (high - n)) (m - 1)) mask ∙ and_mask (word / 2 ^ (high - n)) n ∙ ap (λ (k : ℕ). word / 2 ^ k % 2 ^ n) shift ∙ middle list w.seen fits there word p n w.value (omega arith);
          left = ap (λ (k : ℕ). drop k (bits bytes)) (place bytes at word held (64 + n - high) w short) ∙ sym (drop-drop (64 + n - high) (8 * at - held) (bits bytes)) ∙ ap (λ (k : ℕ). drop k list) (sym len) ∙ sym (drop-drop n p list);
        },
      )
