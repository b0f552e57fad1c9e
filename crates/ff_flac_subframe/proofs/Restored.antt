-- The samples that a subframe stands for are those that it was written from.
use Rattle.std.proofs.Common.{◌≡◌, ℕ, zero, suc, ◌+◌, ◌-◌, ◌^◌, ◌<◌, ◌≤◌, true, ℤ, pos, List, [], ◌∷◌, ◌++◌, length, get_or, map, take, refl, sym, ap, subst, ◌∙◌, arith}
use Rattle.std.specs.Prelude.{◌+ℤ◌, ◌*ℤ◌, replicate}
use Rattle.std.specs.List.{AllByRecursion}
use Rattle.std.proofs.lemmas.Int.{ints}
use Rattle.std.proofs.lemmas.List.{take_all, take_more, length-take, get_or-take}
use Rattle.ff_flac_frame.specs.Prediction.{ago, fixed as predicted_fixed, restored}
use Rattle.ff_flac_dec.specs.Values.{coded_samples, channel_samples}
use Rattle.std.specs.List.{list_all}
use Rattle.std.specs.Ordering.{int_eq}
use Rattle.std.proofs.lemmas.Bool.{and_parts}
use Rattle.std.proofs.lemmas.Bool.Decides.{Decides-int_eq}
use Rattle.ff_flac_subframe.specs.rice.Rice.{Coding, codings}
use Rattle.ff_flac_subframe.specs.Subframe.{Spelling, rest_of, first_or_zero, all_are, fixed_of, candidates}
use Rattle.ff_flac_subframe.specs.Subframe.Spelling.{constant, fixed, verbatim}
use Rattle.ff_flac_subframe.specs.laws.Part.{part_for}
use Rattle.ff_flac_subframe.proofs.ReadsSub.{all-candidates}
use Rattle.ff_flac_subframe.proofs.Predict.{at, length-rest_of, rest_of-zero, prediction_1, prediction_2, prediction_3, prediction_4}

pub restored_is : (P : List ℤ → ℤ) (order : ℕ) (xs rest : List ℤ) → length rest + order ≡ length xs
    → ((j : ℕ) → j < length rest → P (take (j + order) xs) +ℤ at rest j ≡ at xs (j + order)) → restored P (take order xs) rest ≡ xs
unfolding at
restored_is P order xs [] n h = take_all order xs (omega arith)
restored_is P order xs (r ∷ rest) n h =
    let z : 0 + order ≡ order = omega arith in
    let first : P (take order xs) +ℤ r ≡ get_or xs order (pos 0) = subst (λ (m : ℕ). P (take m xs) +ℤ r ≡ get_or xs m (pos 0)) z (h 0 (omega arith)) in
    let more : take (order + 1) xs ≡ take order xs ++ (get_or xs order (pos 0) ∷ []) = take_more xs order (pos 0) (omega (arith, n)) in
    ap (λ (y : ℤ). restored P (take order xs ++ (y ∷ [])) rest) first
    ∙ ap (λ (l : List ℤ). restored P l rest) (sym more)
    ∙ restored_is P (order + 1) xs rest (omega (arith, n)) (λ j lt.
    let e : suc j + order ≡ j + (order + 1) = omega arith in
    subst (λ (m : ℕ). P (take m xs) +ℤ get_or rest j (pos 0) ≡ get_or xs m (pos 0)) e (h (suc j) (omega arith)))

ago_is : (k n m : ℕ) (xs : List ℤ) → n ≤ length xs → 0 < k → m + k ≡ n → ago k (take n xs) ≡ at xs m
unfolding at
ago_is k n m xs le some e =
    let l : length (take n xs) ≡ n = omega (arith, length-take n xs, le) in
    let d : n - k ≡ m = omega (arith, e) in
    ap (λ (i : ℕ). get_or (take n xs) (i - k) (pos 0)) l ∙ ap (λ (i : ℕ). get_or (take n xs) i (pos 0)) d ∙ get_or-take n xs m (pos 0) (omega (arith, e, some))

-- what a fixed predictor and its residual make is the sample
predicted : (order : ℕ) (xs : List ℤ) (j : ℕ) → order ≤ 4 → j + order < length xs → predicted_fixed order (take (j + order) xs) +ℤ at (rest_of order xs) j ≡ at xs (j + order)
unfolding at
predicted zero xs j h lt =
    let e : j ≡ j + 0 = omega arith in
    let z : pos 0 +ℤ get_or xs j (pos 0) ≡ get_or xs j (pos 0) = omega (arith, ints) in
    ap (λ (l : List ℤ). pos 0 +ℤ get_or l j (pos 0)) (rest_of-zero xs) ∙ z ∙ ap (λ (i : ℕ). get_or xs i (pos 0)) e
predicted (suc zero) xs j h lt =
    let n : ℕ = j + 1 in
    let one : at xs (suc j) ≡ get_or xs (j + 1) (pos 0) = ap (λ (i : ℕ). get_or xs i (pos 0)) (let e : suc j ≡ j + 1 = omega arith in e) in
    let a1 : ago 1 (take n xs) ≡ at xs j = ago_is 1 n j xs (omega arith) (omega arith) (omega arith) in
    omega (arith, ints, prediction_1 xs j (omega arith), a1, one)
predicted (suc (suc zero)) xs j h lt =
    let n : ℕ = j + 2 in
    let one : at xs (suc (suc j)) ≡ get_or xs (j + 2) (pos 0) = ap (λ (i : ℕ). get_or xs i (pos 0)) (let e : suc (suc j) ≡ j + 2 = omega arith in e) in
    let a1 : ago 1 (take n xs) ≡ at xs (suc j) = ago_is 1 n (suc j) xs (omega arith) (omega arith) (omega arith) in
    let a2 : ago 2 (take n xs) ≡ at xs j = ago_is 2 n j xs (omega arith) (omega arith) (omega arith) in
    omega (arith, ints, prediction_2 xs j (omega arith), a1, a2, one)
predicted (suc (suc (suc zero))) xs j h lt =
    let n : ℕ = j + 3 in
    let one : at xs (suc (suc (suc j))) ≡ get_or xs (j + 3) (pos 0) = ap (λ (i : ℕ). get_or xs i (pos 0)) (let e : suc (suc (suc j)) ≡ j + 3 = omega arith in e) in
    let a1 : ago 1 (take n xs) ≡ at xs (suc (suc j)) = ago_is 1 n (suc (suc j)) xs (omega arith) (omega arith) (omega arith) in
    let a2 : ago 2 (take n xs) ≡ at xs (suc j) = ago_is 2 n (suc j) xs (omega arith) (omega arith) (omega arith) in
    let a3 : ago 3 (take n xs) ≡ at xs j = ago_is 3 n j xs (omega arith) (omega arith) (omega arith) in
    omega (arith, ints, prediction_3 xs j (omega arith), a1, a2, a3, one)
predicted (suc (suc (suc (suc zero)))) xs j h lt =
    let n : ℕ = j + 4 in
    let one : at xs (suc (suc (suc (suc j)))) ≡ get_or xs (j + 4) (pos 0) = ap (λ (i : ℕ). get_or xs i (pos 0)) (let e : suc (suc (suc (suc j))) ≡ j + 4 = omega arith in e) in
    let a1 : ago 1 (take n xs) ≡ at xs (suc (suc (suc j))) = ago_is 1 n (suc (suc (suc j))) xs (omega arith) (omega arith) (omega arith) in
    let a2 : ago 2 (take n xs) ≡ at xs (suc (suc j)) = ago_is 2 n (suc (suc j)) xs (omega arith) (omega arith) (omega arith) in
    let a3 : ago 3 (take n xs) ≡ at xs (suc j) = ago_is 3 n (suc j) xs (omega arith) (omega arith) (omega arith) in
    let a4 : ago 4 (take n xs) ≡ at xs j = ago_is 4 n j xs (omega arith) (omega arith) (omega arith) in
    omega (arith, ints, prediction_4 xs j (omega arith), a1, a2, a3, a4, one)
predicted (suc (suc (suc (suc (suc m))))) xs j h lt = absurd (omega arith)

pub restored-fixed : (order : ℕ) (xs : List ℤ) → order ≤ 4 → order ≤ length xs → restored (predicted_fixed order) (take order xs) (rest_of order xs) ≡ xs
restored-fixed order xs h le =
    let n : length (rest_of order xs) + order ≡ length xs = omega (arith, length-rest_of order xs, le) in
    restored_is (predicted_fixed order) order xs (rest_of order xs) n (λ j lt. predicted order xs j h (omega (arith, n, lt)))

-- ---- the samples of each part

all_equal : (x : ℤ) (xs : List ℤ) → list_all (λ y. int_eq y x) xs ≡ true → replicate (length xs) x ≡ xs
all_equal x [] h = refl
all_equal x (y ∷ ys) h =
    let p = and_parts (int_eq y x) (list_all (λ z. int_eq z x) ys) h in
    let e : y ≡ x = (Decides-int_eq y x).0 p.0 in
    ap (λ (l : List ℤ). x ∷ l) (all_equal x ys p.1) ∙ ap (λ (z : ℤ). z ∷ ys) (sym e)

no_shift : (xs : List ℤ) → map (λ x. x *ℤ pos (2 ^ 0)) xs ≡ xs
no_shift [] = refl
no_shift (x ∷ xs) =
    let e : x *ℤ pos 1 ≡ x = omega (arith, ints) in
    ap (λ (y : ℤ). y ∷ map (λ x. x *ℤ pos (2 ^ 0)) xs) e ∙ ap (λ (l : List ℤ). x ∷ l) (no_shift xs)

-- the samples that a spelling stands for
abbrev pub StandsFor : List ℤ → Spelling → Type 0
StandsFor xs s = (coded_samples (length xs) (part_for xs s) ≡ xs) × (channel_samples (length xs) (part_for xs s) ≡ xs)

stands : (xs : List ℤ) (s : Spelling) → coded_samples (length xs) (part_for xs s) ≡ xs → (part_for xs s).wasted ≡ 0 → StandsFor xs s
unfolding channel_samples
stands xs s h w =
    (h, ap (λ (n : ℕ). map (λ x. x *ℤ pos (2 ^ n)) (coded_samples (length xs) (part_for xs s))) w ∙ ap (map (λ x. x *ℤ pos (2 ^ 0))) h ∙ no_shift xs)

constant_samples : (xs : List ℤ) → all_are (first_or_zero xs) xs ≡ true → coded_samples (length xs) (part_for xs constant) ≡ xs
unfolding coded_samples all_are
constant_samples xs h = all_equal (first_or_zero xs) xs h

fixed_samples : (xs : List ℤ) (order : ℕ) (c : Coding) → order ≤ 4 → order ≤ length xs → coded_samples (length xs) (part_for xs (fixed order c)) ≡ xs
unfolding coded_samples
fixed_samples xs order c h le = restored-fixed order xs h le

verbatim_samples : (xs : List ℤ) → coded_samples (length xs) (part_for xs verbatim) ≡ xs
unfolding coded_samples
verbatim_samples xs = refl

fixed_stands : (xs : List ℤ) (order : ℕ) → order ≤ 4 → order ≤ length xs → (cs : List Coding) → AllByRecursion (StandsFor xs) (map (fixed order) cs)
fixed_stands xs order h le [] = tt
fixed_stands xs order h le (c ∷ cs) = (stands xs (fixed order c) (fixed_samples xs order c h le) refl, fixed_stands xs order h le cs)

fixed_of_stands : (xs : List ℤ) (order : ℕ) → order ≤ 4 → order ≤ length xs → AllByRecursion (StandsFor xs) (fixed_of (length xs) order)
unfolding fixed_of
fixed_of_stands xs order h le = fixed_stands xs order h le (codings (length xs) order)

pub candidates_stand : (xs : List ℤ) → AllByRecursion (StandsFor xs) (candidates xs)
candidates_stand xs =
    all-candidates (StandsFor xs) xs (λ e. stands xs constant (constant_samples xs e) refl)
    (λ order le m. fixed_of_stands xs order le (omega (arith, m))) (stands xs verbatim (verbatim_samples xs) refl)
