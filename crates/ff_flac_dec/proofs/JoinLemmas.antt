-- Samples of two channels.
use Rattle.std.proofs.Common.{◌≡◌, ℕ, zero, suc, ◌+◌, ◌/◌, ◌%◌, ◌<◌, ◌≤◌, true, false, cond, eqb, List, [], ◌∷◌, ◌++◌, length, get_or, refl, sym, ap, subst, ◌∙◌, arith}
use Rattle.std.proofs.Common.{ℤ, pos, negsuc, ◌+ℤ◌, ◌-ℤ◌, ◌*ℤ◌, unsigned_abs}
use Rattle.std.specs.Int.Signed.{shr_z}
use Rattle.std.proofs.Common.{to_z, of_z}
use Rattle.std.specs.Int.{w32}
use Rattle.std.specs.Int.RustNames.{FitsSigned}
use Rattle.std.proofs.lemmas.Int.{ints, to_z-of_z, fits_signed_from_abs}
use Rattle.ff_frame.specs.Audio.{FitsBits}
use Rattle.ff_flac_frame.proofs.LinearLemmas.{abs_in_depth, sum_bound, shr_bound}
use Rattle.std.specs.Prelude.{◌==◌, if◌then◌else◌}
use Rattle.std.specs.List.{AllByRecursion}
use Rattle.ff_flac_dec.proofs.ChannelLemmas.{all_from}
use Rattle.ff_flac_dec.proofs.FrameLemmas.{fits_all}
use Rattle.ff_flac_frame.specs.Prediction.{AllInDepth}
use Rattle.ff_flac_dec.specs.Channels.{less, more, mid_left, mid_right, both, left_right, sample_frame, interleaved_from, interleaved, AllChannels}

pub halved : (k : ℤ) → shr_z (k +ℤ k) 2 ≡ k
halved (pos a) = let e : (a + a) / 2 ≡ a = omega arith in ap (λ (n : ℕ). pos n) e
halved (negsuc a) = let e : negsuc a +ℤ negsuc a ≡ negsuc (a + a + 1) = omega (arith, ints) in let f : (a + a + 1) / 2 ≡ a = omega arith in ap (λ (z : ℤ). shr_z z 2) e ∙ ap (λ (n : ℕ). negsuc n) f

-- half of a number, and its low bit
pub parts : (s : ℤ) → (shr_z s 2 +ℤ shr_z s 2) +ℤ pos (unsigned_abs s % 2) ≡ s
parts (pos n) = omega (arith, ints)
parts (negsuc n) = omega (arith, ints)

pub mid_left_is : (m s : ℤ) → mid_left m s ≡ (m -ℤ shr_z s 2) +ℤ s
mid_left_is m s =
    let h : ℤ = shr_z s 2 in
    let b : ℕ = unsigned_abs s % 2 in
    let p : (h +ℤ h) +ℤ pos b ≡ s = parts s in
    let k : ℤ = (m -ℤ h) +ℤ s in
    let e : ((pos 2 *ℤ m) +ℤ pos b) +ℤ s ≡ k +ℤ k = omega (arith, ints) in
    ap (λ (z : ℤ). shr_z z 2) e ∙ halved k

pub mid_right_is : (m s : ℤ) → mid_right m s ≡ m -ℤ shr_z s 2
mid_right_is m s =
    let h : ℤ = shr_z s 2 in
    let b : ℕ = unsigned_abs s % 2 in
    let p : (h +ℤ h) +ℤ pos b ≡ s = parts s in
    let k : ℤ = m -ℤ h in
    let e : ((pos 2 *ℤ m) +ℤ pos b) -ℤ s ≡ k +ℤ k = omega (arith, ints) in
    ap (λ (z : ℤ). shr_z z 2) e ∙ halved k

-- ---- as the code keeps them

diff_bound : (a b : ℤ) → unsigned_abs (a -ℤ b) ≤ unsigned_abs a + unsigned_abs b
diff_bound (pos m) (pos n) = omega (arith, ints)
diff_bound (pos m) (negsuc n) = omega (arith, ints)
diff_bound (negsuc m) (pos n) = omega (arith, ints)
diff_bound (negsuc m) (negsuc n) = omega (arith, ints)

module _ (x y : ℤ) (hx : FitsBits 25 x) (hy : FitsBits 25 y) where
  abs_x : unsigned_abs x ≤ 16777216
  abs_x = abs_in_depth 25 x hx

  abs_y : unsigned_abs y ≤ 16777216
  abs_y = abs_in_depth 25 y hy

  pub same_x : to_z w32 (of_z w32 x) ≡ x
  same_x = to_z-of_z w32 x (fits_signed_from_abs w32 x (omega (arith, abs_x)))

  pub same_y : to_z w32 (of_z w32 y) ≡ y
  same_y = to_z-of_z w32 y (fits_signed_from_abs w32 y (omega (arith, abs_y)))

  abs_half : unsigned_abs (shr_z y 2) ≤ 16777216
  abs_half = omega (arith, shr_bound y 2 (omega arith), abs_y)

  abs_right : unsigned_abs (x -ℤ shr_z y 2) ≤ 33554432
  abs_right = omega (arith, diff_bound x (shr_z y 2), abs_x, abs_half)

  abs_left : unsigned_abs ((x -ℤ shr_z y 2) +ℤ y) ≤ 50331648
  abs_left = omega (arith, sum_bound (x -ℤ shr_z y 2) y, abs_right, abs_y)

  half_same : to_z w32 (of_z w32 (shr_z (to_z w32 (of_z w32 y)) 2)) ≡ shr_z y 2
  half_same = rw same_y (to_z-of_z w32 (shr_z y 2) (fits_signed_from_abs w32 (shr_z y 2) (omega (arith, abs_half))))

  right_fits : FitsSigned w32 (x -ℤ shr_z y 2)
  right_fits = fits_signed_from_abs w32 (x -ℤ shr_z y 2) (omega (arith, abs_right))

  left_fits : FitsSigned w32 ((x -ℤ shr_z y 2) +ℤ y)
  left_fits = fits_signed_from_abs w32 ((x -ℤ shr_z y 2) +ℤ y) (omega (arith, abs_left))

  pub kept_right_fits : FitsSigned w32 (to_z w32 (of_z w32 x) -ℤ to_z w32 (of_z w32 (shr_z (to_z w32 (of_z w32 y)) 2)))
  kept_right_fits = rw (half_same, same_x) right_fits

  pub kept_right : to_z w32 (of_z w32 (to_z w32 (of_z w32 x) -ℤ to_z w32 (of_z w32 (shr_z (to_z w32 (of_z w32 y)) 2)))) ≡ x -ℤ shr_z y 2
  kept_right = rw (half_same, same_x) (to_z-of_z w32 (x -ℤ shr_z y 2) right_fits)

  pub kept_left_fits : FitsSigned w32 (to_z w32 (of_z w32 (to_z w32 (of_z w32 x) -ℤ to_z w32 (of_z w32 (shr_z (to_z w32 (of_z w32 y)) 2)))) +ℤ to_z w32 (of_z w32 y))
  kept_left_fits = rw (kept_right, same_y) left_fits

  pub kept_left : to_z w32 (of_z w32 (to_z w32 (of_z w32 (to_z w32 (of_z w32 x) -ℤ to_z w32 (of_z w32 (shr_z (to_z w32 (of_z w32 y)) 2)))) +ℤ to_z w32 (of_z w32 y))) ≡ (x -ℤ shr_z y 2) +ℤ y
  kept_left = rw (kept_right, same_y) (to_z-of_z w32 ((x -ℤ shr_z y 2) +ℤ y) left_fits)

-- ---- left and right, sample by sample

abbrev pub left_at : ℕ → ℤ → ℤ → ℤ
left_at form x y = if form == 8 then x else (if form == 9 then more x y else mid_left x y)

abbrev pub right_at : ℕ → ℤ → ℤ → ℤ
right_at form x y = if form == 8 then less x y else (if form == 9 then y else mid_right x y)

get_or-both : (f : ℤ → ℤ → ℤ) (xs ys : List ℤ) (i : ℕ) → i < length xs → i < length ys → get_or (both f xs ys) i (pos 0) ≡ f (get_or xs i (pos 0)) (get_or ys i (pos 0))
get_or-both f [] ys i lt lt' = absurd (omega arith)
get_or-both f (x ∷ xs) [] i lt lt' = absurd (omega arith)
get_or-both f (x ∷ xs) (y ∷ ys) zero lt lt' = refl
get_or-both f (x ∷ xs) (y ∷ ys) (suc i) lt lt' = get_or-both f xs ys i (omega arith) (omega arith)

pub joint_frame : (form : ℕ) (xs ys : List ℤ) (i : ℕ) → i < length xs → i < length ys → sample_frame (left_right form xs ys) i ≡ left_at form (get_or xs i (pos 0)) (get_or ys i (pos 0)) ∷ right_at form (get_or xs i (pos 0)) (get_or ys i (pos 0)) ∷ []
joint_frame form xs ys i lt lt' =
    let x : ℤ = get_or xs i (pos 0) in
    let y : ℤ = get_or ys i (pos 0) in
    let e : (f : ℤ → ℤ → ℤ) → get_or (both f xs ys) i (pos 0) ≡ f x y = λ f. get_or-both f xs ys i lt lt' in
    elim (eqb form 8) as (λ b. sample_frame (cond b (xs ∷ both less xs ys ∷ []) (cond (eqb form 9) (both more xs ys ∷ ys ∷ []) (both mid_left xs ys ∷ both mid_right xs ys ∷ []))) i
    ≡ cond b x (cond (eqb form 9) (more x y) (mid_left x y)) ∷ cond b (less x y) (cond (eqb form 9) y (mid_right x y)) ∷ []) [
      | true ↦ ap (λ (z : ℤ). x ∷ z ∷ []) (e less)
      | false ↦ elim (eqb form 9) as (λ b. sample_frame (cond b (both more xs ys ∷ ys ∷ []) (both mid_left xs ys ∷ both mid_right xs ys ∷ [])) i
          ≡ cond b (more x y) (mid_left x y) ∷ cond b y (mid_right x y) ∷ []) [
            | true ↦ ap (λ (z : ℤ). z ∷ y ∷ []) (e more)
            | false ↦ ap (λ (z : ℤ). z ∷ get_or (both mid_right xs ys) i (pos 0) ∷ []) (e mid_left) ∙ ap (λ (z : ℤ). mid_left x y ∷ z ∷ []) (e mid_right)
          ]
    ]

-- ---- in depth or not

all_by : (d : ℕ) (xs : List ℤ) → AllInDepth d xs → AllByRecursion (FitsBits d) xs
all_by d [] h = tt
all_by d (x ∷ xs) h = (h 0 (omega arith), all_by d xs (λ k lt. h (suc k) (omega arith)))

first_part : {A : Type 0} (P : A → Type 0) (xs ys : List A) → AllByRecursion P (xs ++ ys) → AllByRecursion P xs
first_part P [] ys h = tt
first_part P (x ∷ xs) ys h = (h.0, first_part P xs ys h.1)

second_part : {A : Type 0} (P : A → Type 0) (xs ys : List A) → AllByRecursion P (xs ++ ys) → AllByRecursion P ys
second_part P [] ys h = h
second_part P (x ∷ xs) ys h = second_part P xs ys h.1

frame_in : (d : ℕ) (channels : List (List ℤ)) (n t k : ℕ) → k < n → AllByRecursion (FitsBits d) (interleaved_from channels n t) → AllByRecursion (FitsBits d) (sample_frame channels (t + k))
frame_in d channels zero t k lt h = absurd (omega arith)
frame_in d channels (suc n) t zero lt h =
    let e : t ≡ t + 0 = omega arith in
    subst (λ (s : ℕ). AllByRecursion (FitsBits d) (sample_frame channels s)) e (first_part (FitsBits d) (sample_frame channels t) (interleaved_from channels n (t + 1)) h)
frame_in d channels (suc n) t (suc k) lt h =
    let e : t + 1 + k ≡ t + suc k = omega arith in
    subst (λ (s : ℕ). AllByRecursion (FitsBits d) (sample_frame channels s)) e (frame_in d channels n (t + 1) k (omega arith) (second_part (FitsBits d) (sample_frame channels t) (interleaved_from channels n (t + 1)) h))

two_in : (d n : ℕ) (xs ys : List ℤ) → length xs ≡ n → length ys ≡ n → AllByRecursion (FitsBits d) (interleaved_from (xs ∷ ys ∷ []) n 0) → AllChannels d (xs ∷ ys ∷ [])
two_in d n xs ys e f h =
    let from_0 : (k : ℕ) → 0 + k ≡ k = λ k. omega arith in (
      (λ k lt. subst (λ (j : ℕ). FitsBits d (get_or xs j (pos 0))) (from_0 k) (frame_in d (xs ∷ ys ∷ []) n 0 k (omega (arith, e, lt)) h).0),
      ((λ k lt. subst (λ (j : ℕ). FitsBits d (get_or ys j (pos 0))) (from_0 k) (frame_in d (xs ∷ ys ∷ []) n 0 k (omega (arith, f, lt)) h).1.0), tt),
    )

length-both : (f : ℤ → ℤ → ℤ) (xs ys : List ℤ) → length xs ≡ length ys → length (both f xs ys) ≡ length xs
length-both f [] ys e = refl
length-both f (x ∷ xs) [] e = absurd (omega (arith, e))
length-both f (x ∷ xs) (y ∷ ys) e = ap suc (length-both f xs ys (omega (arith, e)))

-- what is in depth sample frame by sample frame is in depth channel by channel,
pub channels_fit : (d form : ℕ) (xs ys : List ℤ) → length xs ≡ length ys → AllInDepth d (interleaved (length xs) (left_right form xs ys)) → AllChannels d (left_right form xs ys)
unfolding interleaved
channels_fit d form xs ys e h =
    let n : ℕ = length xs in
    let r : AllByRecursion (FitsBits d) (interleaved_from (left_right form xs ys) n 0) = all_by d (interleaved_from (left_right form xs ys) n 0) h in
    let l : (f : ℤ → ℤ → ℤ) → length (both f xs ys) ≡ n = λ f. length-both f xs ys e in
    (elim (eqb form 8) as (λ b. let m : List (List ℤ) = cond b (xs ∷ both less xs ys ∷ []) (cond (eqb form 9) (both more xs ys ∷ ys ∷ []) (both mid_left xs ys ∷ both mid_right xs ys ∷ [])) in
    AllByRecursion (FitsBits d) (interleaved_from m n 0) → AllChannels d m) [
      | true ↦ λ g. two_in d n xs (both less xs ys) refl (l less) g
      | false ↦ elim (eqb form 9) as (λ b. let m : List (List ℤ) = cond b (both more xs ys ∷ ys ∷ []) (both mid_left xs ys ∷ both mid_right xs ys ∷ []) in
          AllByRecursion (FitsBits d) (interleaved_from m n 0) → AllChannels d m) [
            | true ↦ λ g. two_in d n (both more xs ys) ys (l more) (sym e) g
            | false ↦ λ g. two_in d n (both mid_left xs ys) (both mid_right xs ys) (l mid_left) (l mid_right) g
          ]
    ]) r

-- and the other way round
pub samples_fit : (d n : ℕ) (channels : List (List ℤ)) → AllChannels d channels → AllInDepth d (interleaved n channels)
unfolding interleaved
samples_fit d n channels h = all_from d (interleaved_from channels n 0) (fits_all d channels n 0 h)
