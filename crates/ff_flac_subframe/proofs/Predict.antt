use Rattle.std.proofs.Common.{◌≡◌, ℕ, zero, ◌^◌, suc, ◌+◌, ◌-◌, ◌*◌, ◌<◌, ◌≤◌, ℤ, pos, negsuc, List, [], ◌∷◌, ◌++◌, length, map, get_or, set, take, drop}
use Rattle.std.proofs.Common.{to_z, of_z, w32, refl, sym, ap, ◌∙◌, arith}
use Rattle.std.specs.Prelude.{◌+ℤ◌, ◌*ℤ◌, ◌-ℤ◌, ◌<ℤ◌, ◌≤ℤ◌, neg_ℤ}
use Rattle.std.proofs.lemmas.Int.{ints, to_z-of_z}
use Rattle.std.specs.List.{flat_map, All, AllByRecursion}
use Rattle.std.proofs.lemmas.List.Elements.{All-from_recursion, recursion_from_All, All-same, All-drop}
use Rattle.std.proofs.lemmas.List.{length-append, length-drop, append_assoc, append-nil, drop_more, drop-drop, drop-set-lt, take_more, take_more_set, map-append}
use Rattle.ff_bits.proofs.BitsLemmas.{length-bits_of}
use Rattle.ff_frame.specs.Audio.{FitsBits}
use Rattle.ff_flac_frame.specs.laws.Bounds.{IsSmall, IsBounded, IsWide}
use Rattle.ff_flac_subframe.specs.rice.Rice.{zigzagged}
use Rattle.ff_flac_subframe.specs.Subframe.{steps, steps_from, rest_of, magnitude, sample_bits}

pub step_next : (xs all : List ℤ) (i : ℕ) (d : ℤ) → i + 1 < length xs → d ≡ get_or xs (i + 1) (pos 0) -ℤ get_or xs i (pos 0)
    → take i xs ++ steps (drop i xs) ≡ all → take (i + 1) (set xs i d) ++ steps (drop (i + 1) (set xs i d)) ≡ all
step_next xs all i d h e is =
    let x : ℤ = get_or xs i (pos 0) in
    let y : ℤ = get_or xs (i + 1) (pos 0) in
    let rest : List ℤ = drop (i + 1) xs in
    let after : rest ≡ y ∷ drop (i + 1 + 1) xs = drop_more xs (i + 1) (pos 0) h in
    let both : drop i xs ≡ x ∷ y ∷ drop (i + 1 + 1) xs = drop_more xs i (pos 0) (omega arith) ∙ ap (λ l. x ∷ l) after in
    let step : steps (drop i xs) ≡ (y -ℤ x) ∷ steps rest = ap steps both ∙ ap (λ l. (y -ℤ x) ∷ steps l) (sym after) in
    ap (λ l. l ++ steps (drop (i + 1) (set xs i d))) (take_more_set xs i d (omega arith))
    ∙ ap (λ l. (take i xs ++ (d ∷ [])) ++ steps l) (drop-set-lt (i + 1) xs i d (omega arith))
    ∙ append_assoc (take i xs) (d ∷ []) (steps rest)
    ∙ ap (λ z. take i xs ++ (z ∷ steps rest)) e
    ∙ ap (λ l. take i xs ++ l) (sym step)
    ∙ is

pub step_rest_small : (P : ℤ → Type 0) (xs : List ℤ) (i : ℕ) (d : ℤ) → All P (drop i xs) → All P (drop (i + 1) (set xs i d))
step_rest_small P xs i d h =
    All-same P (drop (i + 1) (set xs i d)) (drop 1 (drop i xs)) (drop-set-lt (i + 1) xs i d (omega arith) ∙ sym (drop-drop 1 i xs)) (All-drop P 1 (drop i xs) h)

steps_short : (xs : List ℤ) → length xs ≤ 1 → steps xs ≡ []
steps_short [] h = refl
steps_short (x ∷ []) h = refl
steps_short (x ∷ y ∷ xs) h = absurd (omega arith)

pub step_end : (xs all : List ℤ) (i n : ℕ) → length xs ≡ n → i ≡ n - 1 → take i xs ++ steps (drop i xs) ≡ all → take (n - 1) xs ≡ all
step_end xs all i n l e is =
    let none : steps (drop i xs) ≡ [] = steps_short (drop i xs) (omega (arith, length-drop i xs, l)) in
    ap (λ m. take m xs) (sym e) ∙ sym (append-nil (take i xs)) ∙ ap (λ l. take i xs ++ l) (sym none) ∙ is

-- ---- how long residuals are, and how large

length-steps_from : (x : ℤ) (ys : List ℤ) → length (steps_from x ys) ≡ length ys
length-steps_from x [] = refl
length-steps_from x (y ∷ ys) = ap suc (length-steps_from y ys)

length-steps : (xs : List ℤ) → length (steps xs) ≡ length xs - 1
length-steps [] = refl
length-steps (x ∷ xs) = omega (arith, length-steps_from x xs)

pub rest_of-suc : (order : ℕ) (xs : List ℤ) → rest_of (suc order) xs ≡ steps (rest_of order xs)
unfolding rest_of
rest_of-suc order xs = refl

pub rest_of-zero : (xs : List ℤ) → rest_of 0 xs ≡ xs
unfolding rest_of
rest_of-zero xs = refl

pub length-rest_of : (order : ℕ) (xs : List ℤ) → length (rest_of order xs) ≡ length xs - order
length-rest_of zero xs = omega (arith, ap length (rest_of-zero xs))
length-rest_of (suc order) xs =
    ap length (rest_of-suc order xs) ∙ length-steps (rest_of order xs) ∙ omega (arith, length-rest_of order xs)

pub magnitude_of : (bits : ℕ) (x : ℤ) → FitsBits bits x → magnitude x < 2 ^ (bits - 1)
magnitude_of bits (pos n) h = h
magnitude_of bits (negsuc n) h = h

pub fits_of : (bits : ℕ) (x : ℤ) → magnitude x < 2 ^ (bits - 1) → FitsBits bits x
fits_of bits (pos n) h = h
fits_of bits (negsuc n) h = h

pub above : (m : ℕ) (x : ℤ) → magnitude x < m → x <ℤ pos m
above m (pos n) h = omega (arith, ints)
above m (negsuc n) h = omega (arith, ints)

pub from_below : (m : ℕ) (x : ℤ) → magnitude x < m → neg_ℤ (pos m) ≤ℤ x
from_below m (pos n) h = omega (arith, ints)
from_below m (negsuc n) h = omega (arith, ints)

pub between : (m : ℕ) (x : ℤ) → x <ℤ pos m → neg_ℤ (pos m) ≤ℤ x → magnitude x < m
between m (pos n) h g = omega (arith, ints)
between m (negsuc n) h g = omega (arith, ints)

pub step_small : (m : ℕ) (x y : ℤ) → magnitude x < m → magnitude y < m → magnitude (y -ℤ x) < 2 * m
step_small m x y h g =
    let a : x <ℤ pos m = above m x h in
    let b : y <ℤ pos m = above m y g in
    let c : neg_ℤ (pos m) ≤ℤ x = from_below m x h in
    let d : neg_ℤ (pos m) ≤ℤ y = from_below m y g in
    between (2 * m) (y -ℤ x) (omega (arith, ints)) (omega (arith, ints))

-- what a number and what stands for it say of one another
zigzag_high : (m : ℕ) (x : ℤ) → zigzagged x ≤ m → (pos 2 *ℤ x) ≤ℤ pos m
zigzag_high m (pos n) h = omega (arith, ints)
zigzag_high m (negsuc n) h = omega (arith, ints)

zigzag_low : (m : ℕ) (x : ℤ) → zigzagged x ≤ m → neg_ℤ (pos (m + 1)) ≤ℤ (pos 2 *ℤ x)
zigzag_low m (pos n) h = omega (arith, ints)
zigzag_low m (negsuc n) h = omega (arith, ints)

zigzag_between : (m : ℕ) (x : ℤ) → (pos 2 *ℤ x) ≤ℤ pos m → neg_ℤ (pos (m + 1)) ≤ℤ (pos 2 *ℤ x) → zigzagged x ≤ m
zigzag_between m (pos n) h g = omega (arith, ints)
zigzag_between m (negsuc n) h g = omega (arith, ints)

pub zigzag_small : (m : ℕ) (x : ℤ) → magnitude x < m → zigzagged x < 2 * m
zigzag_small m (pos n) h = omega arith
zigzag_small m (negsuc n) h = omega arith

step_zigzag : (m : ℕ) (x y : ℤ) → zigzagged x ≤ m → zigzagged y ≤ m → zigzagged (y -ℤ x) ≤ 2 * m
step_zigzag m x y h g =
    let a : (pos 2 *ℤ x) ≤ℤ pos m = zigzag_high m x h in
    let b : (pos 2 *ℤ y) ≤ℤ pos m = zigzag_high m y g in
    let c : neg_ℤ (pos (m + 1)) ≤ℤ (pos 2 *ℤ x) = zigzag_low m x h in
    let d : neg_ℤ (pos (m + 1)) ≤ℤ (pos 2 *ℤ y) = zigzag_low m y g in
    zigzag_between (2 * m) (y -ℤ x) (omega (arith, ints)) (omega (arith, ints))

steps_from_zigzags : (m : ℕ) (x : ℤ) (ys : List ℤ) → zigzagged x ≤ m
    → AllByRecursion (λ z. zigzagged z ≤ m) ys → AllByRecursion (λ z. zigzagged z ≤ 2 * m) (steps_from x ys)
steps_from_zigzags m x [] h g = tt
steps_from_zigzags m x (y ∷ ys) h g = (step_zigzag m x y h g.0, steps_from_zigzags m y ys g.0 g.1)

steps_zigzags_rec : (m : ℕ) (xs : List ℤ) → AllByRecursion (λ z. zigzagged z ≤ m) xs → AllByRecursion (λ z. zigzagged z ≤ 2 * m) (steps xs)
steps_zigzags_rec m [] g = tt
steps_zigzags_rec m (x ∷ xs) g = steps_from_zigzags m x xs g.0 g.1

pub steps_zigzags : (m : ℕ) (xs : List ℤ) → All (λ z. zigzagged z ≤ m) xs → All (λ z. zigzagged z ≤ 2 * m) (steps xs)
steps_zigzags m xs h =
    All-from_recursion (λ z. zigzagged z ≤ 2 * m) (steps xs) (steps_zigzags_rec m xs (recursion_from_All (λ z. zigzagged z ≤ m) xs h))

steps_from_small : (m : ℕ) (x : ℤ) (ys : List ℤ) → magnitude x < m → AllByRecursion (λ z. magnitude z < m) ys → AllByRecursion (λ z. magnitude z < 2 * m) (steps_from x ys)
steps_from_small m x [] h g = tt
steps_from_small m x (y ∷ ys) h g = (step_small m x y h g.0, steps_from_small m y ys g.0 g.1)

steps_small_rec : (m : ℕ) (xs : List ℤ) → AllByRecursion (λ z. magnitude z < m) xs → AllByRecursion (λ z. magnitude z < 2 * m) (steps xs)
steps_small_rec m [] g = tt
steps_small_rec m (x ∷ xs) g = steps_from_small m x xs g.0 g.1

pub steps_small : (m : ℕ) (xs : List ℤ) → All (λ z. magnitude z < m) xs → All (λ z. magnitude z < 2 * m) (steps xs)
steps_small m xs h =
    All-from_recursion (λ z. magnitude z < 2 * m) (steps xs) (steps_small_rec m xs (recursion_from_All (λ z. magnitude z < m) xs h))

-- ---- samples

pub length-sample_bits : (depth : ℕ) (x : ℤ) → length (sample_bits depth x) ≡ depth
unfolding sample_bits
length-sample_bits depth x = length-bits_of depth _

pub length-samples : (depth : ℕ) (xs : List ℤ) → length (flat_map (sample_bits depth) xs) ≡ depth * length xs
length-samples depth [] = omega arith
length-samples depth (x ∷ xs) =
    length-append (sample_bits depth x) (flat_map (sample_bits depth) xs) ∙ omega (arith, length-sample_bits depth x, length-samples depth xs)

-- ---- the residuals are the samples less their predictions

get_or-steps_from : (x : ℤ) (ys : List ℤ) (i : ℕ) → i < length ys → get_or (steps_from x ys) i (pos 0) ≡ get_or ys i (pos 0) -ℤ get_or (x ∷ ys) i (pos 0)
get_or-steps_from x [] i h = absurd (omega arith)
get_or-steps_from x (y ∷ ys) zero h = refl
get_or-steps_from x (y ∷ ys) (suc i) h = get_or-steps_from y ys i (omega arith)

get_or-steps : (xs : List ℤ) (i : ℕ) → suc i < length xs → get_or (steps xs) i (pos 0) ≡ get_or xs (suc i) (pos 0) -ℤ get_or xs i (pos 0)
get_or-steps [] i h = absurd (omega arith)
get_or-steps (x ∷ xs) i h = get_or-steps_from x xs i (omega arith)

unfoldable pub at : List ℤ → ℕ → ℤ
at xs i = get_or xs i (pos 0)

next_order : (order : ℕ) (xs : List ℤ) (i : ℕ) → suc i + order < length xs → at (rest_of (suc order) xs) i ≡ at (rest_of order xs) (suc i) -ℤ at (rest_of order xs) i
unfolding at
next_order order xs i h =
    ap (λ l. get_or l i (pos 0)) (rest_of-suc order xs) ∙ get_or-steps (rest_of order xs) i (omega (arith, length-rest_of order xs, h))

pub prediction_1 : (xs : List ℤ) (i : ℕ) → suc i < length xs → at (rest_of 1 xs) i ≡ at xs (suc i) -ℤ at xs i
unfolding rest_of at
prediction_1 xs i h = get_or-steps xs i h

pub prediction_2 : (xs : List ℤ) (i : ℕ) → suc (suc i) < length xs
    → at (rest_of 2 xs) i ≡ at xs (suc (suc i)) -ℤ (pos 2 *ℤ at xs (suc i) -ℤ at xs i)
prediction_2 xs i h =
    omega (arith, ints, next_order 1 xs i (omega arith), prediction_1 xs i (omega arith), prediction_1 xs (suc i) (omega arith))

pub prediction_3 : (xs : List ℤ) (i : ℕ) → suc (suc (suc i)) < length xs
    → at (rest_of 3 xs) i ≡ at xs (suc (suc (suc i))) -ℤ (pos 3 *ℤ at xs (suc (suc i)) -ℤ pos 3 *ℤ at xs (suc i) +ℤ at xs i)
prediction_3 xs i h =
    omega (arith, ints, next_order 2 xs i (omega arith), prediction_2 xs i (omega arith), prediction_2 xs (suc i) (omega arith))

pub prediction_4 : (xs : List ℤ) (i : ℕ) → suc (suc (suc (suc i))) < length xs
    → at (rest_of 4 xs) i ≡ at xs (suc (suc (suc (suc i)))) -ℤ (pos 4 *ℤ at xs (suc (suc (suc i))) -ℤ pos 6 *ℤ at xs (suc (suc i)) +ℤ pos 4 *ℤ at xs (suc i) -ℤ at xs i)
prediction_4 xs i h =
    omega (arith, ints, next_order 3 xs i (omega arith), prediction_3 xs i (omega arith), prediction_3 xs (suc i) (omega arith))

-- ---- residuals by index

pub small_of : (x : ℤ) → magnitude x < 2 ^ 24 → IsSmall x
small_of x h =
    let a : x <ℤ pos (2 ^ 24) = above (2 ^ 24) x h in
    let b : neg_ℤ (pos (2 ^ 24)) ≤ℤ x = from_below (2 ^ 24) x h in
    record { low = b; high = omega (arith, ints) }

pub magnitude_wide : (x : ℤ) → IsWide x → magnitude x < 2 ^ 30
magnitude_wide x h = between (2 ^ 30) x (omega (arith, ints)) (omega (arith, ints))

pub small_same : (x : ℤ) → IsSmall x → to_z w32 (of_z w32 x) ≡ x
small_same x h = to_z-of_z w32 x (omega (arith, ints))

pub wide_same : (x : ℤ) → IsWide x → to_z w32 (of_z w32 x) ≡ x
wide_same x h = to_z-of_z w32 x (omega (arith, ints))

pub bounded_same : (x : ℤ) → IsBounded x → to_z w32 (of_z w32 x) ≡ x
bounded_same x h = to_z-of_z w32 x (omega (arith, ints))

at_is : (xs : List ℤ) (i j : ℕ) → i ≡ j → at xs i ≡ get_or xs j (pos 0)
unfolding at
at_is xs i j e = ap (λ n. get_or xs n (pos 0)) e

pub residual_0 : (xs : List ℤ) (i : ℕ) (v : ℤ) → v ≡ get_or xs i (pos 0) → v ≡ get_or (rest_of 0 xs) i (pos 0)
residual_0 xs i v e = e ∙ ap (λ l. get_or l i (pos 0)) (sym (rest_of-zero xs))

pub residual_1 : (xs : List ℤ) (i : ℕ) (v x r : ℤ) → i + 1 < length xs → v ≡ get_or xs i (pos 0) → x ≡ get_or xs (i + 1) (pos 0)
    → r ≡ x -ℤ v → r ≡ get_or (rest_of 1 xs) i (pos 0)
residual_1 xs i v x r h ev ex e =
    omega (arith, ints, e, ev, ex, prediction_1 xs i (omega arith), at_is (rest_of 1 xs) i i refl, at_is xs i i refl, at_is xs (suc i) (i + 1) (omega arith))

pub residual_2 : (xs : List ℤ) (i : ℕ) (v x y r : ℤ) → i + 2 < length xs → v ≡ get_or xs i (pos 0) → x ≡ get_or xs (i + 1) (pos 0) → y ≡ get_or xs (i + 2) (pos 0)
    → r ≡ y -ℤ (pos 2 *ℤ x -ℤ v) → r ≡ get_or (rest_of 2 xs) i (pos 0)
residual_2 xs i v x y r h ev ex ey e =
    omega (
      arith,
      ints,
      e,
      ev,
      ex,
      ey,
      prediction_2 xs i (omega arith),
      at_is (rest_of 2 xs) i i refl,
      at_is xs i i refl,
      at_is xs (suc i) (i + 1) (omega arith),
      at_is xs (suc (suc i)) (i + 2) (omega arith),
    )

pub residual_3 : (xs : List ℤ) (i : ℕ) (v x y z middle r : ℤ) → i + 3 < length xs
    → v ≡ get_or xs i (pos 0) → x ≡ get_or xs (i + 1) (pos 0) → y ≡ get_or xs (i + 2) (pos 0) → z ≡ get_or xs (i + 3) (pos 0)
    → middle ≡ pos 3 *ℤ (x -ℤ y) → r ≡ middle +ℤ z -ℤ v → r ≡ get_or (rest_of 3 xs) i (pos 0)
residual_3 xs i v x y z middle r h ev ex ey ez em e =
    omega (
      arith,
      ints,
      e,
      em,
      ev,
      ex,
      ey,
      ez,
      prediction_3 xs i (omega arith),
      at_is (rest_of 3 xs) i i refl,
      at_is xs i i refl,
      at_is xs (suc i) (i + 1) (omega arith),
      at_is xs (suc (suc i)) (i + 2) (omega arith),
      at_is xs (suc (suc (suc i))) (i + 3) (omega arith),
    )

pub residual_4 : (xs : List ℤ) (i : ℕ) (v x y z next middle r : ℤ) → i + 4 < length xs
    → v ≡ get_or xs i (pos 0) → x ≡ get_or xs (i + 1) (pos 0) → y ≡ get_or xs (i + 2) (pos 0) → z ≡ get_or xs (i + 3) (pos 0)
    → next ≡ get_or xs (i + 4) (pos 0) → middle ≡ pos 6 *ℤ y -ℤ pos 4 *ℤ (x +ℤ z) → r ≡ middle +ℤ next +ℤ v
    → r ≡ get_or (rest_of 4 xs) i (pos 0)
residual_4 xs i v x y z next middle r h ev ex ey ez en em e =
    omega (
      arith,
      ints,
      e,
      em,
      ev,
      ex,
      ey,
      ez,
      en,
      prediction_4 xs i (omega arith),
      at_is (rest_of 4 xs) i i refl,
      at_is xs i i refl,
      at_is xs (suc i) (i + 1) (omega arith),
      at_is xs (suc (suc i)) (i + 2) (omega arith),
      at_is xs (suc (suc (suc i))) (i + 3) (omega arith),
      at_is xs (suc (suc (suc (suc i)))) (i + 4) (omega arith),
    )

-- one more of the numbers that stand for residuals
pub zigzags_more : (rest : List ℤ) (us : List ℕ) (i u : ℕ) → i < length rest → i < length us
    → u ≡ zigzagged (get_or rest i (pos 0)) → take i us ≡ map zigzagged (take i rest)
    → take (i + 1) (set us i u) ≡ map zigzagged (take (i + 1) rest)
zigzags_more rest us i u l m e h =
    take_more_set us i u m
    ∙ ap (λ l. l ++ (u ∷ [])) h
    ∙ ap (λ n. map zigzagged (take i rest) ++ (n ∷ [])) e
    ∙ sym (ap (map zigzagged) (take_more rest i (pos 0) l) ∙ map-append zigzagged (take i rest) (get_or rest i (pos 0) ∷ []))
