-- The channels come back from the signals of each channel code.
use Rattle.std.proofs.Common.{◌≡◌, ℕ, ◌+◌, ◌*◌, ◌/◌, ◌%◌, ℤ, pos, negsuc, List, [], ◌∷◌, length, refl, ap, ◌∙◌, arith}
use Rattle.std.specs.Prelude.{◌+ℤ◌, ◌-ℤ◌, ◌*ℤ◌, unsigned_abs}
use Rattle.std.specs.Int.Signed.{shr_z}
use Rattle.std.proofs.lemmas.Int.{ints}
use Rattle.ff_flac_dec.specs.Channels.{both, less, more, twice_mid, mid_left, mid_right}
use Rattle.ff_flac_enc.specs.Layout.{half, mid_of, side_of}

-- what makes each pair of samples back makes the channels back
both_first : (f g h : ℤ → ℤ → ℤ) → ((x y : ℤ) → f (g x y) (h x y) ≡ x) → (xs ys : List ℤ) → length xs ≡ length ys → both f (both g xs ys) (both h xs ys) ≡ xs
both_first f g h k [] ys e = refl
both_first f g h k (x ∷ xs) [] e = absurd (omega arith)
both_first f g h k (x ∷ xs) (y ∷ ys) e = ap (λ (z : ℤ). z ∷ both f (both g xs ys) (both h xs ys)) (k x y) ∙ ap (λ (l : List ℤ). x ∷ l) (both_first f g h k xs ys (omega arith))

both_second : (f g h : ℤ → ℤ → ℤ) → ((x y : ℤ) → f (g x y) (h x y) ≡ y) → (xs ys : List ℤ) → length xs ≡ length ys → both f (both g xs ys) (both h xs ys) ≡ ys
both_second f g h k [] [] e = refl
both_second f g h k [] (y ∷ ys) e = absurd (omega arith)
both_second f g h k (x ∷ xs) [] e = absurd (omega arith)
both_second f g h k (x ∷ xs) (y ∷ ys) e = ap (λ (z : ℤ). z ∷ both f (both g xs ys) (both h xs ys)) (k x y) ∙ ap (λ (l : List ℤ). y ∷ l) (both_second f g h k xs ys (omega arith))

left_with : (f h : ℤ → ℤ → ℤ) → ((x y : ℤ) → f x (h x y) ≡ y) → (xs ys : List ℤ) → length xs ≡ length ys → both f xs (both h xs ys) ≡ ys
left_with f h k [] [] e = refl
left_with f h k [] (y ∷ ys) e = absurd (omega arith)
left_with f h k (x ∷ xs) [] e = absurd (omega arith)
left_with f h k (x ∷ xs) (y ∷ ys) e = ap (λ (z : ℤ). z ∷ both f xs (both h xs ys)) (k x y) ∙ ap (λ (l : List ℤ). y ∷ l) (left_with f h k xs ys (omega arith))

right_with : (f h : ℤ → ℤ → ℤ) → ((x y : ℤ) → f (h x y) y ≡ x) → (xs ys : List ℤ) → length xs ≡ length ys → both f (both h xs ys) ys ≡ xs
right_with f h k [] ys e = refl
right_with f h k (x ∷ xs) [] e = absurd (omega arith)
right_with f h k (x ∷ xs) (y ∷ ys) e = ap (λ (z : ℤ). z ∷ both f (both h xs ys) ys) (k x y) ∙ ap (λ (l : List ℤ). x ∷ l) (right_with f h k xs ys (omega arith))

pub left_side_back : (l r : List ℤ) → length l ≡ length r → both less l (side_of l r) ≡ r
unfolding side_of
left_side_back l r e = left_with less (λ x y. x -ℤ y) (λ x y. omega (arith, ints)) l r e

pub side_right_back : (l r : List ℤ) → length l ≡ length r → both more (side_of l r) r ≡ l
unfolding side_of
side_right_back l r e = right_with more (λ x y. x -ℤ y) (λ x y. omega (arith, ints)) l r e

-- the low bit of a difference is that of the sum
bit_of : (s d y : ℤ) → s ≡ d +ℤ (y +ℤ y) → (pos 2 *ℤ half s) +ℤ pos (unsigned_abs d % 2) ≡ s
bit_of (pos a) (pos b) (pos c) e = omega (arith, ints, e)
bit_of (pos a) (pos b) (negsuc c) e = omega (arith, ints, e)
bit_of (pos a) (negsuc b) (pos c) e = omega (arith, ints, e)
bit_of (pos a) (negsuc b) (negsuc c) e = omega (arith, ints, e)
bit_of (negsuc a) (pos b) (pos c) e = omega (arith, ints, e)
bit_of (negsuc a) (pos b) (negsuc c) e = omega (arith, ints, e)
bit_of (negsuc a) (negsuc b) (pos c) e = omega (arith, ints, e)
bit_of (negsuc a) (negsuc b) (negsuc c) e = omega (arith, ints, e)

twice_is : (x y : ℤ) → twice_mid (half (x +ℤ y)) (x -ℤ y) ≡ x +ℤ y
twice_is x y = bit_of (x +ℤ y) (x -ℤ y) y (omega (arith, ints))

halved : (x : ℤ) → shr_z (x +ℤ x) 2 ≡ x
halved (pos n) =
    let e : pos n +ℤ pos n ≡ pos (2 * n) = omega (arith, ints) in
    let q : 2 * n / 2 ≡ n = omega arith in
    ap (λ (z : ℤ). shr_z z 2) e ∙ ap (λ (m : ℕ). pos m) q
halved (negsuc n) =
    let e : negsuc n +ℤ negsuc n ≡ negsuc (2 * n + 1) = omega (arith, ints) in
    let q : (2 * n + 1) / 2 ≡ n = omega arith in
    ap (λ (z : ℤ). shr_z z 2) e ∙ ap (λ (m : ℕ). negsuc m) q

left_back : (x y : ℤ) → mid_left (half (x +ℤ y)) (x -ℤ y) ≡ x
left_back x y =
    let e : (x +ℤ y) +ℤ (x -ℤ y) ≡ x +ℤ x = omega (arith, ints) in
    ap (λ (z : ℤ). shr_z (z +ℤ (x -ℤ y)) 2) (twice_is x y) ∙ ap (λ (z : ℤ). shr_z z 2) e ∙ halved x

right_back : (x y : ℤ) → mid_right (half (x +ℤ y)) (x -ℤ y) ≡ y
right_back x y =
    let e : (x +ℤ y) -ℤ (x -ℤ y) ≡ y +ℤ y = omega (arith, ints) in
    ap (λ (z : ℤ). shr_z (z -ℤ (x -ℤ y)) 2) (twice_is x y) ∙ ap (λ (z : ℤ). shr_z z 2) e ∙ halved y

pub mid_left_back : (l r : List ℤ) → length l ≡ length r → both mid_left (mid_of l r) (side_of l r) ≡ l
unfolding mid_of side_of
mid_left_back l r e = both_first mid_left (λ x y. half (x +ℤ y)) (λ x y. x -ℤ y) left_back l r e

pub mid_right_back : (l r : List ℤ) → length l ≡ length r → both mid_right (mid_of l r) (side_of l r) ≡ r
unfolding mid_of side_of
mid_right_back l r e = both_second mid_right (λ x y. half (x +ℤ y)) (λ x y. x -ℤ y) right_back l r e
