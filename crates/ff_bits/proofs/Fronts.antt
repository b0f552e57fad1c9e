-- A word that begins with the next bits of a list, and is turned behind each code.
use Rattle.std.proofs.Common.{◌≡◌, ℕ, ◌+◌, ◌-◌, ◌*◌, ◌/◌, ◌%◌, ◌^◌, ◌<◌, ◌≤◌, Bool, true, false, List, ◌∷◌, ◌++◌, length, take, drop, sym, ap, subst, ◌∙◌, inl, inr, arith, append_assoc, length-append, length-drop, bit_and, bit_or}
use Rattle.std.specs.Prelude.{replicate}
use lib.Count.{count_leading_zeros}
use Rattle.std.specs.Int.{rotate_left, w64}
use Rattle.std.proofs.Math.Seq.{take-add}
use Rattle.std.proofs.lemmas.Nat.{shr_high, mod_low, or_shifted, and_mask, one_shl}
use Rattle.std.proofs.lemmas.List.{length-take, length-replicate, take-append-drop, take-append-le, drop-drop, drop-take, take-take}
use Rattle.ff_bits.specs.Bits.{value_of, bits}
use Rattle.ff_bits.specs.laws.Reads.{IsCounted, IsCoded}
use Rattle.ff_bits.specs.laws.Window.{shown, IsWindow, IsFront}
use Rattle.ff_bits.proofs.BitsLemmas.{value_below}
use Rattle.ff_bits.proofs.Words.{value_of-append}
use Rattle.ff_bits.proofs.Windows.{length-shown, same}
use Rattle.ff_bits.proofs.Zeros.{value_of-zeros, front_in, shifted_left, like_one}

-- a window's word begins with the bits that it holds
pub window_front : (bytes : List ℕ) (at word held : ℕ) → IsWindow bytes at word held → IsFront (drop (8 * at - held) (bits bytes)) word held
window_front bytes at word held w =
    let list : List Bool = drop (8 * at - held) (bits bytes) in
    let all : held ≤ w.seen = w.all in
    let there : w.seen ≤ length list = w.there in
    record {
      few = w.few;
      there = omega arith;
      all = shown w.seen list;
      long = length-shown list w.seen w.fits w.there;
      value = w.value;
      same = sym (same list w.seen w.fits w.there held all);
    }

-- a word turned by m bits
pub turned : (m : ℕ) (all : List Bool) → length all ≡ 64 → 0 < m → m < 64 → rotate_left w64 (value_of all) m ≡ value_of (drop m all ++ take m all)
turned m all long some few =
    let front : List Bool = take m all in
    let back : List Bool = drop m all in
    let v : ℕ = value_of all in
    let lf : length front ≡ m = omega (arith, length-take m all) in
    let lb : length back ≡ 64 - m = omega (arith, length-drop m all) in
    let low : value_of front < 2 ^ m = subst (λ (k : ℕ). value_of front < 2 ^ k) lf (value_below front) in
    let behind : value_of back < 2 ^ (64 - m) = subst (λ (k : ℕ). value_of back < 2 ^ k) lb (value_below back) in
    let left : (v * 2 ^ m) % 2 ^ 64 ≡ value_of back * 2 ^ m =
    shifted_left m all long (omega arith) ∙ value_of-append back (replicate m false)
    ∙ ap (λ (k : ℕ). value_of back * 2 ^ k + value_of (replicate m false)) (length-replicate m false) ∙ omega (arith, value_of-zeros m) in
    let parts : v ≡ value_of front * 2 ^ (64 - m) + value_of back =
    ap value_of (sym (take-append-drop m all)) ∙ value_of-append front back ∙ ap (λ (k : ℕ). value_of front * 2 ^ k + value_of back) lb in
    let right : v / 2 ^ (64 - m) ≡ value_of front = ap (λ (x : ℕ). x / 2 ^ (64 - m)) parts ∙ shr_high (value_of front) (64 - m) (value_of back) behind in
    let up : m % 64 ≡ m = omega arith in
    let down : (64 - m % 64) % 64 ≡ 64 - m = omega arith in
    ap (λ (k : ℕ). bit_or ((v * 2 ^ k) % 2 ^ 64) (v / 2 ^ ((64 - m % 64) % 64))) up
    ∙ ap (λ (k : ℕ). bit_or ((v * 2 ^ m) % 2 ^ 64) (v / 2 ^ k)) down
    ∙ ap (λ (x : ℕ). bit_or x (v / 2 ^ (64 - m))) left
    ∙ ap (λ (x : ℕ). bit_or (value_of back * 2 ^ m) x) right
    ∙ or_shifted (value_of back) m (value_of front) low
    ∙ ap (λ (k : ℕ). value_of back * 2 ^ k + value_of front) (sym lf)
    ∙ sym (value_of-append back front)

module _ (list : List Bool) (word held n : ℕ) (f : IsFront list word held) (enough : count_leading_zeros 64 word + 1 + n ≤ held) where
  abbrev len : ℕ
  len = count_leading_zeros 64 word + 1 + n

  abbrev next : List Bool
  next = drop len f.all ++ take len f.all

  within : (0 < len) × (len ≤ held) × (len < 64)
  within =
      let few : held < 64 = f.few in
      (omega arith, omega arith, omega arith)

  turned-is : rotate_left w64 word len ≡ value_of next
  turned-is = ap (λ (x : ℕ). rotate_left w64 x len) f.value ∙ turned len f.all f.long within.0 within.2

  same_first : (m : ℕ) → m ≤ held → take m f.all ≡ take m list
  same_first m le = sym (take-take m held f.all le) ∙ ap (λ (xs : List Bool). take m xs) f.same ∙ take-take m held list le

  -- what follows the code stands in front
  pub turned_front : IsFront (drop len list) (rotate_left w64 word len) (held - len)
  turned_front =
      let few : held < 64 = f.few in
      let there : held ≤ length list = f.there in
      let long : length f.all ≡ 64 = f.long in
      let le : len ≤ held = within.1 in
      let parts : len + (held - len) ≡ held = omega arith in
      let room : held - len ≤ length (drop len f.all) = omega (arith, length-drop len f.all) in
      record {
        few = omega arith;
        there = omega (arith, length-drop len list);
        all = next;
        long = length-append (drop len f.all) (take len f.all) ∙ omega (arith, length-drop len f.all, length-take len f.all);
        value = turned-is;
        same = take-append-le (held - len) (drop len f.all) (take len f.all) room
            ∙ sym (drop-take len (held - len) f.all) ∙ ap (λ (k : ℕ). drop len (take k f.all)) parts ∙ ap (λ (xs : List Bool). drop len xs) f.same
            ∙ ap (λ (k : ℕ). drop len (take k list)) (sym parts) ∙ drop-take len (held - len) list;
      }

  -- its low bits are the last of the code
  pub turned_read : n ≤ 57 → IsCoded n list (count_leading_zeros 64 word) (bit_and (rotate_left w64 word len) ((1 * 2 ^ n) % 2 ^ 64 - 1)) (drop len list)
  turned_read small =
      let few : held < 64 = f.few in
      let there : held ≤ length list = f.there in
      let z : ℕ = count_leading_zeros 64 word in
      let p : ℕ = z + 1 in
      let found = front_in f.all word f.long f.value in
      let one : f.all ≡ replicate z false ++ true ∷ drop (z + 1) f.all = elim found.1.1 [ inl none ↦ absurd (omega arith) | inr y ↦ y ] in
      let counted : IsCounted list z (drop (z + 1) list) = like_one z list f.all (sym (same_first (z + 1) (omega arith))) one in
      let low : List Bool = take n (drop p list) in
      let high-bits : List Bool = drop len f.all ++ take p list in
      let size : length low ≡ n = omega (arith, length-take n (drop p list), length-drop p list) in
      let bound : value_of low < 2 ^ n = subst (λ (k : ℕ). value_of low < 2 ^ k) size (value_below low) in
      let next-is : next ≡ high-bits ++ low =
      ap (λ (xs : List Bool). drop len f.all ++ xs) (same_first len within.1 ∙ take-add p n list)
      ∙ sym (append_assoc (drop len f.all) (take p list) low) in
      let mask : (1 * 2 ^ n) % 2 ^ 64 ≡ 2 ^ n = one_shl n 64 (omega arith) in
      let value : bit_and (rotate_left w64 word len) ((1 * 2 ^ n) % 2 ^ 64 - 1) ≡ value_of low =
      ap (λ (m : ℕ). bit_and (rotate_left w64 word len) (m - 1)) mask ∙ and_mask (rotate_left w64 word len) n
      ∙ ap (λ (x : ℕ). x % 2 ^ n) (turned-is ∙ ap value_of next-is ∙ value_of-append high-bits low)
      ∙ ap (λ (k : ℕ). (value_of high-bits * 2 ^ k + value_of low) % 2 ^ n) size ∙ mod_low (value_of high-bits) n (value_of low) bound in (
        counted,
        record {
          enough = omega (arith, length-drop p list);
          value = value;
          left = sym (drop-drop n p list);
        },
      )
