-- Whether one of the items that came of an output passes a limit.
use Rattle.std.proofs.Common.{◌≡◌, ℕ, zero, suc, ◌+◌, ◌-◌, ◌*◌, ◌/◌, ◌<◌, ◌≤◌, ◌^◌, min, pos, Bool, true, false, ◌||◌, cond, nat_lt, List, [], ◌∷◌, map, length}
use Rattle.std.proofs.Common.{refl, inl, inr, ap, sym, ◌∙◌, arith}
use Rattle.std.specs.Prelude.{replicate}
use Rattle.std.specs.Int.{div_ceil}
use Rattle.std.proofs.lemmas.Bool.{or_left, or_right, or_cases}
use Rattle.std.proofs.lemmas.Bool.Decides.{nat_tests}
use Rattle.std.proofs.lemmas.List.{length-replicate}
use Rattle.std.proofs.Math.Nat.{div-zero, mul-div_cancel, mul-le-mul_right}
use Rattle.ff_time.specs.Fraction.{Fraction}
use Rattle.ff_frame.specs.declared.head.Codec.{Codec}
use Rattle.ff_frame.specs.declared.head.StreamHead.{StreamHead}
use Rattle.ff_frame.specs.declared.head.StreamHead.TheVariants.{Audio as AudioHead, Video as VideoHead}
use Rattle.ff_stream.specs.declared.item.Item.{Item}
use Rattle.ff_stream.specs.declared.item.Lane.TheVariants.{Frames}
use Rattle.ff_stream.specs.Times.{end_ticks}
use Rattle.ff_stream.specs.Within.{some_pass, passes_limits}
use Rattle.ff_frame.specs.Heads.{base_of_head}
use Rattle.ff_concat.specs.Silences.{silent_frame, silent_frames, filled}
use Rattle.ff_concat.specs.Concats.{later}
use Rattle.ff_concat.specs.laws.Late.{is_late, some_late, channel_count}

-- one, or one of the others, of which the last also passes where the first does by its number
pick : (a b c d r : Bool) → (a ≡ true → c ≡ true) → r ≡ (c || d) → cond (a || b) true r ≡ (c || (b || d))
pick true b c d r h e = sym (ap (λ (x : Bool). x || (b || d)) (h refl))
pick false true true d r h e = refl
pick false true false d r h e = refl
pick false false c d r h e = e

only : (a b : Bool) → cond (a || b) true false ≡ (a || (b || false))
only true b = refl
only false true = refl
only false false = refl

-- what none of two is, neither is
cond_parts : (a b : Bool) → cond a true b ≡ false → (a ≡ false) × (b ≡ false)
cond_parts true b e = cc
cond_parts false b e = (refl, e)

or_first : (a b : Bool) → (a || b) ≡ false → a ≡ false
or_first true b e = cc
or_first false b e = refl

-- items that are so many ticks later: the last has too high a number, or one ends too late
pub items_some : (head : StreamHead) (by n : ℕ) (x : Item) (xs : List Item)
    → some_pass (passes_limits (Frames head)) n (map (later by) (x ∷ xs)) ≡ (nat_lt (2 ^ 40) (n + suc (length xs)) || some_late head by (x ∷ xs))
items_some head by n x [] = only (nat_lt (2 ^ 40) (n + 1)) (is_late head by x)
items_some head by n x (y ∷ ys) =
    pick (nat_lt (2 ^ 40) (n + 1)) (is_late head by x) (nat_lt (2 ^ 40) (n + suc (suc (length ys)))) (some_late head by (y ∷ ys))
    (some_pass (passes_limits (Frames head)) (n + 1) (map (later by) (y ∷ ys)))
    (λ e. grind (arith, nat_tests))
    (items_some head by (n + 1) y ys
    ∙ ap (λ (k : ℕ). nat_lt (2 ^ 40) k || some_late head by (y ∷ ys)) (let e : n + 1 + suc (length ys) ≡ n + suc (suc (length ys)) = omega arith in e))

then_same : (a b : Bool) → (a ≡ true → b ≡ true) → cond a true b ≡ b
then_same true b h = sym (h refl)
then_same false b h = refl

cond_self : (b : Bool) → cond b true false ≡ b
cond_self true = refl
cond_self false = refl

-- so many zeros last no longer than that
zeros_last : (count channels : ℕ) → length (replicate (count * channels) (pos 0)) / channels ≤ count
zeros_last count zero = let e = div-zero (length (replicate (count * 0) (pos 0))) in omega (arith, e)
zeros_last count (suc n) =
    let e : length (replicate (count * suc n) (pos 0)) / suc n ≡ count =
    ap (λ (k : ℕ). k / suc n) (length-replicate (count * suc n) (pos 0)) ∙ mul-div_cancel count (let p : 0 < suc n = omega arith in p) in
    omega (arith, e)

module _ (tb : Fraction) (rate bits channels : ℕ) (codec : Codec) where
  abbrev passes : ℕ → Item → Bool
  passes = passes_limits (Frames (AudioHead tb rate bits channels codec))

  abbrev zeros : ℕ → ℕ → Item
  zeros a count = silent_frame rate bits channels a count

  -- a frame behind another one passes a limit where that does
  passes_behind : (i j a b c d : ℕ) → i ≤ j → a + c ≤ b → passes i (zeros a c) ≡ true → passes j (zeros b d) ≡ true
  passes_behind i j a b c d le far e =
      let l = zeros_last c channels in
      let m = length (replicate (c * channels) (pos 0)) / channels in
      let n = length (replicate (d * channels) (pos 0)) / channels in
      let up : (a + m) * tb.num ≤ (b + n) * tb.num = mul-le-mul_right tb.num (let u : a + m ≤ b + n = omega (arith, far, l) in u) in
      elim (or_cases (nat_lt (2 ^ 40) (i + 1)) (nat_lt (1000000000 * tb.den) ((a + m) * tb.num)) e) as (λ _. passes j (zeros b d) ≡ true) [
        | inl x ↦ or_left (nat_lt (2 ^ 40) (j + 1)) (nat_lt (1000000000 * tb.den) ((b + n) * tb.num)) (grind (arith, nat_tests))
        | inr x ↦ or_right (nat_lt (2 ^ 40) (j + 1)) (nat_lt (1000000000 * tb.den) ((b + n) * tb.num)) (grind (arith, nat_tests))
      ]

  -- of frames of zeros one passes a limit where the last one does
  pub zeros_some : (m i a b : ℕ) → some_pass passes i (silent_frames rate bits channels (suc m) a b)
      ≡ passes (i + m) (zeros (a + 1024 * m) (min 1024 (b - (a + 1024 * m))))
  zeros_some zero i a b =
      cond_self (passes i (zeros a (min 1024 (b - a))))
      ∙ (ap (λ (k : ℕ). passes k (zeros a (min 1024 (b - a)))) (let e : i ≡ i + 0 = omega arith in e)
      ∙ ap (λ (s : ℕ). passes (i + 0) (zeros s (min 1024 (b - s)))) (let e : a ≡ a + 1024 * 0 = omega arith in e))
  zeros_some (suc m) i a b =
      let s = a + 1024 * suc m in
      let same : some_pass passes (i + 1) (silent_frames rate bits channels (suc m) (a + 1024) b) ≡ passes (i + suc m) (zeros s (min 1024 (b - s))) =
      zeros_some m (i + 1) (a + 1024) b
      ∙ (ap (λ (k : ℕ). passes k (zeros (a + 1024 + 1024 * m) (min 1024 (b - (a + 1024 + 1024 * m))))) (let e : i + 1 + m ≡ i + suc m = omega arith in e)
      ∙ ap (λ (t : ℕ). passes (i + suc m) (zeros t (min 1024 (b - t)))) (let e : a + 1024 + 1024 * m ≡ a + 1024 * suc m = omega arith in e)) in
      ap (λ (r : Bool). cond (passes i (zeros a (min 1024 (b - a)))) true r) same
      ∙ then_same (passes i (zeros a (min 1024 (b - a)))) (passes (i + suc m) (zeros s (min 1024 (b - s))))
      (λ e. passes_behind i (i + suc m) a s (min 1024 (b - a)) (min 1024 (b - s)) (omega arith) (omega arith) e)

-- the same of as many items as there are
pub queue_some : (head : StreamHead) (by n : ℕ) (xs : List Item) → 0 < length xs
    → some_pass (passes_limits (Frames head)) n (map (later by) xs) ≡ (nat_lt (2 ^ 40) (n + length xs) || some_late head by xs)
queue_some head by n [] some = absurd (omega (arith, some))
queue_some head by n (x ∷ xs) some = items_some head by n x xs

pub queue_none : (head : StreamHead) (by n : ℕ) (xs : List Item) → length xs ≡ 0 → some_pass (passes_limits (Frames head)) n (map (later by) xs) ≡ false
queue_none head by n [] e = refl
queue_none head by n (x ∷ xs) e = absurd (omega (arith, e))

-- where none passes a limit, there are few
pub few_pass : (head : StreamHead) (n : ℕ) (xs : List Item) → some_pass (passes_limits (Frames head)) n xs ≡ false → n ≤ 2 ^ 64 → n + length xs ≤ 2 ^ 64
few_pass head n [] e few = omega (arith, few)
few_pass head n (x ∷ xs) e few =
    let parts = cond_parts (passes_limits (Frames head) n x) (some_pass (passes_limits (Frames head)) (n + 1) xs) e in
    let first = or_first (nat_lt (2 ^ 40) (n + 1)) (nat_lt (1000000000 * (base_of_head head).den) (end_ticks x * (base_of_head head).num)) parts.0 in
    let small : n + 1 ≤ 2 ^ 40 = grind (arith, nat_tests) in
    let more = few_pass head (n + 1) xs parts.1 (omega (arith, small)) in
    omega (arith, more)

-- how many frames of zeros there are
silent_count : (rate bits channels n a b : ℕ) → length (silent_frames rate bits channels n a b) ≡ n
silent_count rate bits channels zero a b = refl
silent_count rate bits channels (suc n) a b = ap suc (silent_count rate bits channels n (a + 1024) b)

pub audio_count : (head : StreamHead) (tb : Fraction) (rate bits channels : ℕ) (codec : Codec) (a b : ℕ) → head ≡ AudioHead tb rate bits channels codec
    → length (filled head a b) ≡ div_ceil (b - a) 1024
audio_count head tb rate bits channels codec a b e =
    ap (λ (h : StreamHead). length (filled h a b)) e ∙ silent_count rate bits channels (div_ceil (b - a) 1024) a b

-- the last of them starts before the end, and reaches up to it
pub last_frame : (head : StreamHead) (a b n : ℕ) → n ≡ length (filled head a b) → 0 < n → (a + 1024 * (n - 1) < b) × (b - (a + 1024 * (n - 1)) ≤ 1024)
last_frame (AudioHead tb rate bits channels codec) a b n e some =
    let c = silent_count rate bits channels (div_ceil (b - a) 1024) a b in
    (omega (arith, e, c, some), omega (arith, e, c, some))
last_frame (VideoHead tb format width height sar_num sar_den) a b n e some = absurd (omega (arith, e, some))

-- one of them passes a limit: the last has too high a number, or it ends too late
pub filled_some : (head : StreamHead) (i a b n : ℕ) → n ≡ length (filled head a b) → 0 < n
    → some_pass (passes_limits (Frames head)) i (filled head a b)
    ≡ (nat_lt (2 ^ 40) (i + n) || nat_lt (1000000000 * (base_of_head head).den)
    ((a + 1024 * (n - 1) + (b - (a + 1024 * (n - 1))) * channel_count head / channel_count head) * (base_of_head head).num))
filled_some (VideoHead tb format width height sar_num sar_den) i a b n e some = absurd (omega (arith, e, some))
filled_some (AudioHead tb rate bits channels codec) i a b zero e some = absurd (omega (arith, some))
filled_some (AudioHead tb rate bits channels codec) i a b (suc m) e some =
    let head : StreamHead = AudioHead tb rate bits channels codec in
    let c = silent_count rate bits channels (div_ceil (b - a) 1024) a b in
    let count : div_ceil (b - a) 1024 ≡ suc m = omega (arith, e, c) in
    let s = a + 1024 * m in
    let near : min 1024 (b - s) ≡ b - s = omega (arith, count) in
    let long : length (replicate (min 1024 (b - s) * channels) (pos 0)) / channels ≡ (b - s) * channels / channels =
    ap (λ (k : ℕ). k / channels) (length-replicate (min 1024 (b - s) * channels) (pos 0)) ∙ ap (λ (k : ℕ). k * channels / channels) near in
    let number : i + m + 1 ≡ i + suc m = omega arith in
    let start : s ≡ a + 1024 * (suc m - 1) = omega arith in
    ap (λ (k : ℕ). some_pass (passes_limits (Frames head)) i (silent_frames rate bits channels k a b)) count
    ∙ (zeros_some tb rate bits channels codec m i a b
    ∙ (ap (λ (k : ℕ). nat_lt (2 ^ 40) (i + m + 1) || nat_lt (1000000000 * tb.den) ((s + k) * tb.num)) long
    ∙ (ap (λ (k : ℕ). nat_lt (2 ^ 40) k || nat_lt (1000000000 * tb.den) ((s + (b - s) * channels / channels) * tb.num)) number
    ∙ ap (λ (k : ℕ). nat_lt (2 ^ 40) (i + suc m) || nat_lt (1000000000 * tb.den) ((k + (b - k) * channels / channels) * tb.num)) start)))
