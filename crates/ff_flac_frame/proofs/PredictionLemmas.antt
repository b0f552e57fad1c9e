-- Samples and their depth.
use Rattle.std.proofs.Common.{◌≡◌, ℕ, ◌+◌, ◌-◌, ◌^◌, ◌<◌, ◌≤◌, List, [], ◌∷◌, ◌++◌, length, drop, get_or, refl, sym, subst, ◌∙◌}
use Rattle.std.proofs.Common.{append_assoc, arith, length-append, inl, inr}
use Rattle.std.proofs.Common.{ℤ, pos, ◌+ℤ◌, to_z, of_z}
use Rattle.std.specs.Int.{w32, w64}
use Rattle.std.proofs.lemmas.Int.{ints, to_z-of_z}
use Rattle.std.proofs.lemmas.Bool.{cases_lt}
use Rattle.std.proofs.lemmas.List.{get_or_append_left, get_or_push, length_push, drop_more, append-nil, get_or_at}
use Rattle.std.proofs.Math.Nat.{pow-le-pow_right}
use Rattle.ff_frame.specs.Audio.{FitsBits}
use Rattle.ff_flac_frame.proofs.FrameSound.{fits_low, fits_high, FitsBits-wider}
use Rattle.ff_flac_frame.specs.laws.Bounds.{IsSmall, IsBounded, IsWide}
use Rattle.ff_flac_frame.specs.Prediction.{ago, restored, AllInDepth}

pub IsSmall-in_depth : (depth : ℕ) (x : ℤ) → depth ≤ 25 → FitsBits depth x → IsSmall x
IsSmall-in_depth depth x le h =
    let two : 0 < 2 = omega arith in
    let k : depth - 1 ≤ 24 = omega arith in
    let m : 2 ^ (depth - 1) ≤ 2 ^ 24 = pow-le-pow_right two k in
    let low = fits_low depth x h in
    let high = fits_high depth x h in
    record { low = omega (arith, ints); high = omega (arith, ints) }

pub AllInDepth-push : (depth : ℕ) (xs : List ℤ) (x : ℤ) → AllInDepth depth xs → FitsBits depth x → AllInDepth depth (xs ++ x ∷ [])
AllInDepth-push depth xs x h g k lt =
    elim (cases_lt k (length xs)) [
      | inl l ↦ rw (get_or_append_left xs (x ∷ []) (pos 0) k l) (h k l)
      | inr le ↦
          let e : length xs ≡ k = omega (arith, length_push xs x) in
          rw (get_or_push xs x (pos 0) k e) g
    ]

-- the last sample is the one that was pushed
pub ago_push : (xs : List ℤ) (x : ℤ) → ago 1 (xs ++ x ∷ []) ≡ x
ago_push xs x =
    let e : length xs ≡ length (xs ++ x ∷ []) - 1 = omega (arith, length_push xs x) in
    get_or_push xs x (pos 0) (length (xs ++ x ∷ []) - 1) e

-- it is small, also where there is none
pub IsSmall-last : (depth : ℕ) (xs : List ℤ) (x : ℤ) → depth ≤ 25 → AllInDepth depth xs → x ≡ ago 1 xs → IsSmall x
IsSmall-last depth [] x le h e = rw e (record { low = omega (arith, ints); high = omega (arith, ints) })
IsSmall-last depth (y ∷ ys) x le h e =
    let k : ℕ = length (y ∷ ys) - 1 in
    let lt : k < length (y ∷ ys) = omega arith in
    rw e (IsSmall-in_depth depth (get_or (y ∷ ys) k (pos 0)) le (h k lt))

-- what was restored stays at the front
pub restored-front : (f : List ℤ → ℤ) (xs rest : List ℤ) → (more : List ℤ) × (restored f xs rest ≡ xs ++ more)
restored-front f xs [] = ([], sym (append-nil xs))
restored-front f xs (r ∷ rest) =
    let x : ℤ = f xs +ℤ r in
    let t = restored-front f (xs ++ x ∷ []) rest in
    (x ∷ t.0, t.1 ∙ append_assoc xs (x ∷ []) t.0)

-- one residual more
pub restored-step : (f : List ℤ → ℤ) (xs rest : List ℤ) (i : ℕ) → i < length rest
    → restored f xs (drop i rest) ≡ restored f (xs ++ (f xs +ℤ get_or rest i (pos 0)) ∷ []) (drop (i + 1) rest)
restored-step f xs rest i lt = rw (drop_more rest i (pos 0) lt) refl

-- residuals in two parts
pub restored_more : (f : List ℤ → ℤ) (xs rest more : List ℤ) → restored f xs (rest ++ more) ≡ restored f (restored f xs rest) more
restored_more f xs [] more = refl
restored_more f xs (y ∷ rest) more = restored_more f (xs ++ (f xs +ℤ y) ∷ []) rest more

-- a sample that leaves its depth is in the whole
pub leaves : (depth : ℕ) (f : List ℤ → ℤ) (xs rest total : List ℤ) (i : ℕ) (x : ℤ) → i < length rest → x ≡ f xs +ℤ get_or rest i (pos 0)
    → restored f xs (drop i rest) ≡ total → (FitsBits depth x → ⊥) → AllInDepth depth total → ⊥
leaves depth f xs rest total i x lt x-is so_far out all =
    let y : ℤ = f xs +ℤ get_or rest i (pos 0) in
    let t = restored-front f (xs ++ y ∷ []) (drop (i + 1) rest) in
    let e : total ≡ xs ++ (y ∷ t.0) = sym so_far ∙ restored-step f xs rest i lt ∙ t.1 ∙ append_assoc xs (y ∷ []) t.0 in
    let a : AllInDepth depth (xs ++ (y ∷ t.0)) = subst (λ (zs : List ℤ). AllInDepth depth zs) e all in
    let in_whole : length xs < length (xs ++ (y ∷ t.0)) = omega (arith, length-append xs (y ∷ t.0)) in
    let at : FitsBits depth (get_or (xs ++ (y ∷ t.0)) (length xs) (pos 0)) = a (length xs) in_whole in
    let here : FitsBits depth y = subst (λ (z : ℤ). FitsBits depth z) (get_or_at xs y t.0 (pos 0) (length xs) refl) at in
    out (subst (λ (z : ℤ). FitsBits depth z) (sym x-is) here)

pub small_same : (x : ℤ) → IsSmall x → to_z w64 (of_z w64 (to_z w32 (of_z w32 x))) ≡ x
small_same x h =
    let a : to_z w32 (of_z w32 x) ≡ x = to_z-of_z w32 x (omega (arith, ints)) in
    rw a (to_z-of_z w64 x (omega (arith, ints)))

pub wide_same : (x : ℤ) → IsWide x → to_z w64 (of_z w64 x) ≡ x
wide_same x h = to_z-of_z w64 x (omega (arith, ints))

pub small_same64 : (x : ℤ) → IsSmall x → to_z w64 (of_z w64 x) ≡ x
small_same64 x h = to_z-of_z w64 x (omega (arith, ints))

pub bounded_same : (x : ℤ) → IsBounded x → to_z w64 (of_z w64 x) ≡ x
bounded_same x h = to_z-of_z w64 x (omega (arith, ints))

pub all_wider : (depth wide : ℕ) (xs : List ℤ) → depth ≤ wide → AllInDepth depth xs → AllInDepth wide xs
all_wider depth wide xs le h k lt = FitsBits-wider depth wide (get_or xs k (pos 0)) le (h k lt)
