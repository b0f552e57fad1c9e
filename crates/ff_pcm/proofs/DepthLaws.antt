-- Samples at other depths.
use Rattle.std.proofs.Common.{◌≡◌, ℕ, zero, suc, ◌+◌, ◌-◌, ◌*◌, ◌/◌, ◌^◌, ◌<◌, ◌≤◌, ℤ, pos, negsuc, neg_ℤ, ◌*ℤ◌, Bool, true, false, cond, List, [], ◌∷◌, length, get_or, map, refl, sym, ap, ◌∙◌, subst, arith, ⊎_elim}
use Rattle.std.specs.Prelude.{nat_le}
use Rattle.std.specs.List.{All}
use Rattle.std.specs.Int.{w32}
use Rattle.std.specs.Int.RustNames.{FitsSigned}
use Rattle.std.specs.Int.Signed.{shr_z}
use Rattle.std.proofs.lemmas.Bool.{cases_lt}
use Rattle.std.proofs.lemmas.Bool.Decides.{nat_tests}
use Rattle.std.proofs.lemmas.List.{ext_get_or, get_or-map, length-map}
use Rattle.std.proofs.lemmas.List.Elements.{All-map}
use Rattle.std.proofs.lemmas.Nat.{div_below, pow-add, div-mul-add}
use Rattle.std.proofs.Math.Nat.{mul-le-mul_right, mul-lt-mul_of_pos_right, mul-div_cancel}
use Rattle.std.proofs.Math.Pow.{pow_mono}
use Rattle.ff_frame.specs.Audio.{FitsBits, IsAudio}
use Rattle.ff_frame.specs.Frame.{audio_frame}
use Rattle.ff_frame.specs.declared.audio.AFrame.{AFrame}
use Rattle.ff_pcm.specs.Depth.{shifted, at_depth}

-- a list each of whose samples is made of the one at its place
pub mapped : (f : ℤ → ℤ) (xs ys : List ℤ) → length ys ≡ length xs → ((k : ℕ) → k < length xs → get_or ys k (pos 0) ≡ f (get_or xs k (pos 0))) → ys ≡ map f xs
mapped f xs ys long each =
    ext_get_or (pos 0) ys (map f xs) (long ∙ sym (length-map xs f)) (λ k lt. let here : k < length xs = omega (arith, lt, long) in each k here ∙ sym (get_or-map f xs k (pos 0) (pos 0) here))

-- from -h to h - 1
abbrev pub Within : ℕ → ℤ → Type 0
Within h (pos n) = n < h
Within h (negsuc n) = n < h

pub within_bits : (b : ℕ) (z : ℤ) → FitsBits b z → Within (2 ^ (b - 1)) z
within_bits b (pos n) h = h
within_bits b (negsuc n) h = h

pub bits_within : (b : ℕ) (z : ℤ) → Within (2 ^ (b - 1)) z → FitsBits b z
bits_within b (pos n) h = h
bits_within b (negsuc n) h = h

pub within_signed : (h : ℕ) (z : ℤ) → h ≤ 2 ^ 31 → Within h z → FitsSigned w32 z
within_signed h (pos n) le lt = record { sfits = omega (arith, lt) }
within_signed h (negsuc n) le lt = record { sfits = omega (arith, lt) }

suc_le : (n h : ℕ) → n < h → suc n ≤ h
suc_le n h lt = omega arith

within_negative : (h m : ℕ) → 0 < m → m ≤ h → Within h (neg_ℤ (pos m))
within_negative h zero some le = absurd (omega arith)
within_negative h (suc m) some le = omega arith

some_product : (n p : ℕ) → 0 < p → 0 < suc n * p
some_product n p some = omega (arith, mul-le-mul_right p (suc_le 0 (suc n) (omega arith)))

pub within_times : (h p : ℕ) (z : ℤ) → 0 < p → Within h z → Within (h * p) (z *ℤ pos p)
within_times h p (pos n) some lt = mul-lt-mul_of_pos_right lt some
within_times h p (negsuc n) some lt = within_negative (h * p) (suc n * p) (omega (arith, some_product n p some)) (mul-le-mul_right p (suc_le n h lt))

pub within_over : (h p : ℕ) (z : ℤ) → 0 < p → Within (h * p) z → Within h (shr_z z p)
within_over h p (pos n) some lt = div_below n p h some lt
within_over h p (negsuc n) some lt = div_below n p h some lt

powers : (b c : ℕ) → 1 ≤ b → b ≤ c → 2 ^ (c - 1) ≡ 2 ^ (b - 1) * 2 ^ (c - b)
powers b c some le = let e : c - 1 ≡ (b - 1) + (c - b) = omega arith in ap (λ n. 2 ^ n) e ∙ pow-add 2 (b - 1) (c - b)

some_power : (n : ℕ) → 0 < 2 ^ n
some_power n = let h : 2 ^ 0 ≤ 2 ^ n = pow_mono {i = 0} {j = n} (omega arith) in omega (arith, h)

-- a sample times 2^(c - b) is one of c bits
pub raised_fits : (b c : ℕ) (z : ℤ) → 1 ≤ b → b ≤ c → FitsBits b z → FitsBits c (z *ℤ pos (2 ^ (c - b)))
raised_fits b c z some le fit =
    let P : ℕ → Type 0 = λ h. Within h (z *ℤ pos (2 ^ (c - b))) in
    bits_within c _ (subst P (sym (powers b c some le)) (within_times (2 ^ (b - 1)) (2 ^ (c - b)) z (some_power (c - b)) (within_bits b z fit)))

-- a sample over 2^(b - c) is one of c bits
pub lowered_fits : (b c : ℕ) (z : ℤ) → 1 ≤ c → c ≤ b → FitsBits b z → FitsBits c (shr_z z (2 ^ (b - c)))
lowered_fits b c z some le fit =
    let P : ℕ → Type 0 = λ h. Within h z in
    bits_within c _ (within_over (2 ^ (c - 1)) (2 ^ (b - c)) z (some_power (b - c)) (subst P (powers c b some le) (within_bits b z fit)))

pub raised_signed : (b c : ℕ) (z : ℤ) → 1 ≤ b → b ≤ c → c ≤ 32 → FitsBits b z → FitsSigned w32 (z *ℤ pos (2 ^ (c - b)))
raised_signed b c z some le few fit =
    let h : 2 ^ (c - 1) ≤ 2 ^ 31 = pow_mono {i = c - 1} {j = 31} (omega arith) in
    within_signed (2 ^ (c - 1)) _ h (within_bits c _ (raised_fits b c z some le fit))

shifted_at : (b c : ℕ) (z : ℤ) (t : Bool) → nat_le b c ≡ t → 1 ≤ b → 1 ≤ c → FitsBits b z → FitsBits c (cond t (z *ℤ pos (2 ^ (c - b))) (shr_z z (2 ^ (b - c))))
shifted_at b c z true e sb sc fit = raised_fits b c z sb (grind (arith, nat_tests)) fit
shifted_at b c z false e sb sc fit = lowered_fits b c z sc (grind (arith, nat_tests)) fit

pub shifted_fits : (b c : ℕ) (z : ℤ) → 1 ≤ b → 1 ≤ c → FitsBits b z → FitsBits c (shifted b c z)
shifted_fits b c z sb sc fit = shifted_at b c z (nat_le b c) refl sb sc fit

pub all_shifted_fit : (b c : ℕ) (xs : List ℤ) → 1 ≤ b → 1 ≤ c → All (FitsBits b) xs → All (FitsBits c) (map (shifted b c) xs)
all_shifted_fit b c xs sb sc fit = All-map (FitsBits c) (shifted b c) xs (λ k d lt. shifted_fits b c (get_or xs k d) sb sc (fit k d lt))

-- samples at another depth are still those of a frame
pub shifted_audio : (b c channels : ℕ) (xs : List ℤ) → IsAudio b channels xs → 4 ≤ c → c ≤ 32 → IsAudio c channels (map (shifted b c) xs)
shifted_audio b c channels xs a some few = record {
  some_bits = some;
  few_bits = few;
  some_channels = a.some_channels;
  few_channels = a.few_channels;
  sample_frames = a.sample_frames;
  interleaved = length-map xs (shifted b c) ∙ a.interleaved;
  some_sample_frames = a.some_sample_frames;
  few_sample_frames = a.few_sample_frames;
  within_bits = let sb : 1 ≤ b = omega (arith, a.some_bits) in all_shifted_fit b c xs sb (omega (arith, some)) a.within_bits;
}

over_of_negative : (p m k : ℕ) → m ≡ suc k → shr_z (neg_ℤ (pos m)) p ≡ negsuc (k / p)
over_of_negative p zero k e = absurd (omega arith)
over_of_negative p (suc m) k e = let f : m ≡ k = omega arith in ap (λ n. negsuc (n / p)) f

-- a product over its factor
pub over-times : (p : ℕ) (z : ℤ) → 0 < p → shr_z (z *ℤ pos p) p ≡ z
over-times p (pos n) some = ap pos (mul-div_cancel n some)
over-times zero (negsuc n) some = absurd (omega arith)
over-times (suc q) (negsuc n) some =
    over_of_negative (suc q) (suc n * suc q) (n * suc q + q) (omega arith) ∙ ap negsuc (div-mul-add n (suc q) q (omega arith))

test_le : (b c : ℕ) → b ≤ c → nat_le b c ≡ true
test_le b c le = grind (arith, nat_tests)

test_more : (b c : ℕ) → c < b → nat_le b c ≡ false
test_more b c lt = grind (arith, nat_tests)

-- more bits and back
pub shifted-back : (b c : ℕ) (z : ℤ) → b < c → shifted c b (shifted b c z) ≡ z
shifted-back b c z lt =
    let up : shifted b c z ≡ z *ℤ pos (2 ^ (c - b)) = ap (λ t. cond t (z *ℤ pos (2 ^ (c - b))) (shr_z z (2 ^ (b - c)))) (test_le b c (omega arith)) in
    let w = z *ℤ pos (2 ^ (c - b)) in
    let down : shifted c b w ≡ shr_z w (2 ^ (c - b)) = ap (λ t. cond t (w *ℤ pos (2 ^ (b - c))) (shr_z w (2 ^ (c - b)))) (test_more c b lt) in
    ap (shifted c b) up ∙ (down ∙ over-times (2 ^ (c - b)) z (some_power (c - b)))

negative_of : (m n : ℕ) → m ≡ suc n → neg_ℤ (pos m) ≡ negsuc n
negative_of zero n e = absurd (omega arith)
negative_of (suc m) n e = let f : m ≡ n = omega arith in ap negsuc f

by_lt : {P : Type 0} (b c : ℕ) → (b < c → P) → (c ≤ b → P) → P
by_lt {P} b c f g = ⊎_elim f g (cases_lt b c)

times_one_itself : (z : ℤ) → z *ℤ pos 1 ≡ z
times_one_itself (pos n) = ap pos (omega arith)
times_one_itself (negsuc n) = negative_of (suc n * 1) n (omega arith)

times_one : (z : ℤ) (p : ℕ) → p ≡ 1 → z *ℤ pos p ≡ z
times_one z p e = ap (λ n. z *ℤ pos n) e ∙ times_one_itself z

shifted-back_or_same : (b c : ℕ) (z : ℤ) → b ≤ c → shifted c b (shifted b c z) ≡ z
shifted-back_or_same b c z le = by_lt b c (shifted-back b c z) (λ ge.
    let e : c ≡ b = omega arith in
    let P : ℕ → Type 0 = λ n. shifted n b (shifted b n z) ≡ z in
    let one : 2 ^ (b - b) ≡ 1 = let f : b - b ≡ 0 = omega arith in ap (λ n. 2 ^ n) f in
    let same : (w : ℤ) → shifted b b w ≡ w = λ w. ap (λ t. cond t (w *ℤ pos (2 ^ (b - b))) (shr_z w (2 ^ (b - b)))) (test_le b b (omega arith)) ∙ times_one w (2 ^ (b - b)) one in
    subst P (sym e) (same (shifted b b z) ∙ same z))

all_back : (b c : ℕ) (xs : List ℤ) → b ≤ c → map (shifted c b) (map (shifted b c) xs) ≡ xs
all_back b c [] le = refl
all_back b c (x ∷ xs) le = ap (λ y. y ∷ map (shifted c b) (map (shifted b c) xs)) (shifted-back_or_same b c x le) ∙ ap (λ ys. x ∷ ys) (all_back b c xs le)

shifted-same : (b : ℕ) (z : ℤ) → shifted b b z ≡ z
shifted-same b z =
    let one : 2 ^ (b - b) ≡ 1 = let f : b - b ≡ 0 = omega arith in ap (λ n. 2 ^ n) f in
    ap (λ t. cond t (z *ℤ pos (2 ^ (b - b))) (shr_z z (2 ^ (b - b)))) (test_le b b (omega arith)) ∙ times_one z (2 ^ (b - b)) one

-- samples at their own depth
pub all_same : (b : ℕ) (xs : List ℤ) → map (shifted b b) xs ≡ xs
all_same b [] = refl
all_same b (x ∷ xs) = ap (λ y. y ∷ map (shifted b b) xs) (shifted-same b x) ∙ ap (λ ys. x ∷ ys) (all_same b xs)

pub at_depth-back : (frame : AFrame) (bits : ℕ) → frame.bits ≤ bits → at_depth frame.bits (at_depth bits frame) ≡ frame
at_depth-back frame bits le = ap (λ xs. audio_frame frame.pts frame.rate frame.bits frame.channels xs) (all_back frame.bits bits frame.samples le)
