use Rattle.std.proofs.Common.{◌≡◌, ℕ, ℤ, zero, suc, ◌+◌, ◌-◌, ◌*◌, ◌/◌, ◌%◌, ◌^◌, ◌<◌, ◌≤◌, true, inl, inr}
use Rattle.std.proofs.Common.{List, [], ◌∷◌, ◌++◌, length, take, drop, map, refl, sym, ap, ◌∙◌, subst, arith}
use Rattle.std.specs.Int.Count.{count_leading_zeros}
use Rattle.std.specs.Option.{IfSome}
use Rattle.std.specs.List.{range_with_len, All, AllByRecursion, sum_by}
use Rattle.std.proofs.lemmas.Bool.{cases_lt}
use Rattle.std.proofs.lemmas.List.{length-append, length-take, length-drop, length-map, take-map, drop-map}
use Rattle.std.proofs.lemmas.List.Elements.{All-same, All-drop}
use Rattle.std.proofs.lemmas.List.Sums.{sum_by-cons, sum_by-append}
use Rattle.std.proofs.lemmas.Nat.{pow_pos, pow-add, shr_split, mod_below, div_below, mul-le, leading_top}
use Rattle.std.proofs.Math.Nat.{pow-suc, mul-le-mul_left, pow-le-pow_right}
use Rattle.ff_flac_subframe.specs.rice.Rice.{zigzagged, is_allowed, orders, quotients, part_cost, best_k, best_cost, best_at, parts_of, pieces}
use Rattle.ff_flac_subframe.specs.rice.Rice.{codings, codings_by, codings_at, Coding}
use Rattle.ff_flac_subframe.specs.laws.rice.Columns.{lowest}
use Rattle.ff_flac_subframe.proofs.RiceLemmas.LeastLemmas.{least_is_lowest}
use Rattle.ff_flac_subframe.proofs.RiceLemmas.Costs.{least-codings_at, length-parts_of}
use Rattle.ff_flac_subframe.proofs.RiceLemmas.PartLemmas.{best_k_within, count_within, pair_parts, pair_parts-parts_of, pieces-suc, parts_of-is}
use Rattle.ff_flac_subframe.proofs.RiceLemmas.PartLemmas.{rest_len, Front, front_start, front_step, front_end}
use Rattle.ff_flac_subframe.proofs.RiceLemmas.SpanLemmas.{lowest-is, le_of, best_below_all}
use Rattle.ff_flac_subframe.proofs.RiceLemmas.Orders.{allowed_parts, allowed_below}
use Rattle.ff_flac_subframe.proofs.RiceLemmas.Levels.{coding_cost, cost_is, codings_by-cons, codings_by-nil}

-- ---- the fewest bits of a partition's values, and of all partitions'

abbrev pub fewest : List ℕ → ℕ
fewest part = lowest (λ k. part_cost 0 k part) 0 30

fewest_from : (bits : ℕ) (part : List ℕ) → ((k : ℕ) → k < 31 → bits ≤ part_cost 0 k part) → bits ≤ fewest part
fewest_from bits part h =
    let found = lowest-is (λ k. part_cost 0 k part) 0 30 in
    omega (arith, h found.at (omega (arith, found.within)), found.is)

fewest_both : (p q : List ℕ) → fewest p + fewest q ≤ fewest (p ++ q)
fewest_both p q =
    let found = lowest-is (λ k. part_cost 0 k (p ++ q)) 0 30 in
    let k : ℕ = found.at in
    let a = lowest-is (λ k. part_cost 0 k p) 0 30 in
    let b = lowest-is (λ k. part_cost 0 k q) 0 30 in
    let len : length (p ++ q) * (k + 1) ≡ length p * (k + 1) + length q * (k + 1) = ap (λ n. n * (k + 1)) (length-append p q) ∙ omega arith in
    omega (arith, found.is, a.below k (omega arith) (omega (arith, found.within)), b.below k (omega arith) (omega (arith, found.within)), len, sum_by-append (λ u. u / 2 ^ k) p q)

pairs_fewest : (parts : List (List ℕ)) → length parts % 2 ≡ 0 → sum_by fewest parts ≤ sum_by fewest (pair_parts parts)
pairs_fewest [] h = omega arith
pairs_fewest (p ∷ []) h = absurd (omega (arith, h))
pairs_fewest (p ∷ q ∷ parts) h =
    let even : length parts % 2 ≡ 0 = omega (arith, h) in
    omega (arith, sum_by-cons fewest p (q ∷ parts), sum_by-cons fewest q parts, sum_by-cons fewest (p ++ q) (pair_parts parts), fewest_both p q, pairs_fewest parts even)

levels_fewest : (order : ℕ) (us : List ℕ) (finest d p : ℕ) → d + p ≡ finest → is_allowed (length us + order) order finest ≡ true
    → sum_by fewest (parts_of order finest us) ≤ sum_by fewest (parts_of order p us)
levels_fewest order us finest zero p e a =
    let same : p ≡ finest = omega (arith, e) in
    omega (arith, ap (λ m. sum_by fewest (parts_of order m us)) same)
levels_fewest order us finest (suc d) p e a =
    let next : d + suc p ≡ finest = omega (arith, e) in
    let here : is_allowed (length us + order) order (suc p) ≡ true = allowed_below (length us + order) order d (suc p) (subst (λ m. is_allowed (length us + order) order m ≡ true) (sym next) a) in
    let parts = allowed_parts (length us + order) order (suc p) here in
    let finer : List (List ℕ) = parts_of order (suc p) us in
    let even : length finer % 2 ≡ 0 = omega (arith, length-parts_of order (suc p) us, pow-suc 2 p) in
    let paired : sum_by fewest (pair_parts finer) ≡ sum_by fewest (parts_of order p us) = ap (sum_by fewest) (pair_parts-parts_of order p us parts.0 parts.1) in
    omega (arith, levels_fewest order us finest d (suc p) next a, pairs_fewest finer even, paired)

best_fewest : (method : ℕ) (part : List ℕ) → 4 + fewest part ≤ best_cost method part
best_fewest method part =
    let found = lowest-is (λ k. part_cost 0 k part) 0 30 in
    let k : ℕ = best_k method part in
    omega (arith, found.below k (omega arith) (omega (arith, best_k_within method part, count_within method)))

all_fewest : (method : ℕ) (parts : List (List ℕ)) → 4 * length parts + sum_by fewest parts ≤ sum_by (best_cost method) parts
all_fewest method [] = omega arith
all_fewest method (p ∷ parts) =
    omega (arith, sum_by-cons fewest p parts, sum_by-cons (best_cost method) p parts, best_fewest method p, all_fewest method parts)

-- the second method has all parameters
second_fewest : (part : List ℕ) → best_cost 1 part ≤ 5 + fewest part
second_fewest part =
    let found = lowest-is (λ k. part_cost 0 k part) 0 30 in
    omega (arith, found.is, best_below_all 1 part found.at (omega (arith, found.within)))

seconds_fewest : (parts : List (List ℕ)) → sum_by (best_cost 1) parts ≤ 5 * length parts + sum_by fewest parts
seconds_fewest [] = omega arith
seconds_fewest (p ∷ parts) =
    omega (arith, sum_by-cons fewest p parts, sum_by-cons (best_cost 1) p parts, second_fewest p, seconds_fewest parts)

-- ---- no coding has fewer

both_all : {A : Type 0} (P : A → Type 0) (xs ys : List A) → AllByRecursion P xs → AllByRecursion P ys → AllByRecursion P (xs ++ ys)
both_all P [] ys a b = b
both_all P (x ∷ xs) ys a b = (a.0, both_all P xs ys a.1 b)

weaker_all : (order : ℕ) (us : List ℕ) (low bits : ℕ) (cs : List Coding) → bits ≤ low → AllByRecursion (λ c. low ≤ coding_cost order us c) cs → AllByRecursion (λ c. bits ≤ coding_cost order us c) cs
weaker_all order us low bits [] l h = tt
weaker_all order us low bits (c ∷ cs) l h = (omega (arith, l, h.0), weaker_all order us low bits cs l h.1)

at_floor : (order : ℕ) (us : List ℕ) (finest bits method p : ℕ) → p ≤ finest → is_allowed (length us + order) order finest ≡ true → bits ≤ sum_by fewest (parts_of order finest us)
    → AllByRecursion (λ c. 10 + bits ≤ coding_cost order us c) (codings_at method p)
at_floor order us finest bits method p within a h =
    let C : Coding → ℕ = coding_cost order us in
    let best : Coding = best_at order method p us in
    let parts : List (List ℕ) = parts_of order p us in
    let all : AllByRecursion (λ c. C best ≤ C c) (codings_at method p) =
    subst (λ o. IfSome o (λ a. AllByRecursion (λ c. C a ≤ C c) (codings_at method p))) (least-codings_at order method p us) (least_is_lowest C (codings_at method p)) in
    let cost : C best ≡ 6 + sum_by (best_cost method) parts = cost_is order us method p (sum_by (best_cost method) parts) refl in
    let reach : (finest - p) + p ≡ finest = omega (arith, within) in
    weaker_all order us (C best) (10 + bits) (codings_at method p)
    (omega (arith, cost, all_fewest method parts, length-parts_of order p us, pow_pos p, levels_fewest order us finest (finest - p) p reach a, h)) all

by_floor : (order : ℕ) (us : List ℕ) (finest bits method from count : ℕ) → from + count ≤ finest + 1 → is_allowed (length us + order) order finest ≡ true → bits ≤ sum_by fewest (parts_of order finest us)
    → AllByRecursion (λ c. 10 + bits ≤ coding_cost order us c) (codings_by (range_with_len from count) method)
by_floor order us finest bits method from zero within a h = subst (AllByRecursion (λ c. 10 + bits ≤ coding_cost order us c)) (sym (codings_by-nil method)) tt
by_floor order us finest bits method from (suc count) within a h =
    subst (AllByRecursion (λ c. 10 + bits ≤ coding_cost order us c)) (sym (codings_by-cons from (range_with_len (from + 1) count) method))
    (both_all (λ c. 10 + bits ≤ coding_cost order us c) (codings_at method from) (codings_by (range_with_len (from + 1) count) method)
    (at_floor order us finest bits method from (omega (arith, within)) a h)
    (by_floor order us finest bits method (from + 1) count (omega (arith, within)) a h))

codings_floor : (order : ℕ) (us : List ℕ) (finest bits : ℕ)
    → orders (length us + order) order ≡ range_with_len 0 (finest + 1) → is_allowed (length us + order) order finest ≡ true
    → bits ≤ sum_by fewest (parts_of order finest us) → AllByRecursion (λ c. 10 + bits ≤ coding_cost order us c) (codings (length us + order) order)
unfolding codings
codings_floor order us finest bits e a h =
    let P : Coding → Type 0 = λ c. 10 + bits ≤ coding_cost order us c in
    both_all P (codings_by (orders (length us + order) order) 0) (codings_by (orders (length us + order) order) 1)
    (subst (λ l. AllByRecursion P (codings_by l 0)) (sym e) (by_floor order us finest bits 0 0 (finest + 1) (omega arith) a h))
    (subst (λ l. AllByRecursion P (codings_by l 1)) (sym e) (by_floor order us finest bits 1 0 (finest + 1) (omega arith) a h))

-- as `codings_floor`, by the bits that the second method has, for each limit that isn't above the floor
pub seconds_floor : (order : ℕ) (us : List ℕ) (finest cost limit : ℕ)
    → orders (length us + order) order ≡ range_with_len 0 (finest + 1) → is_allowed (length us + order) order finest ≡ true
    → cost ≡ sum_by (best_cost 1) (parts_of order finest us) → limit ≤ 10 + (cost - 5 * 2 ^ finest)
    → AllByRecursion (λ c. limit ≤ coding_cost order us c) (codings (length us + order) order)
seconds_floor order us finest cost limit e a is h =
    let bits : ℕ = cost - 5 * 2 ^ finest in
    weaker_all order us (10 + bits) limit (codings (length us + order) order) h
    (codings_floor order us finest bits e a
    (omega (arith, is, seconds_fewest (parts_of order finest us), length-parts_of order finest us)))

-- as `codings_floor`, where the number of values is known otherwise
codings_floor_of : (order : ℕ) (us : List ℕ) (count finest bits : ℕ) → length us ≡ count
    → orders (count + order) order ≡ range_with_len 0 (finest + 1) → is_allowed (count + order) order finest ≡ true
    → bits ≤ sum_by fewest (parts_of order finest us) → AllByRecursion (λ c. 10 + bits ≤ coding_cost order us c) (codings (count + order) order)
codings_floor_of order us count finest bits n e a h =
    subst (λ n. AllByRecursion (λ c. 10 + bits ≤ coding_cost order us c) (codings (n + order) order)) n
    (codings_floor order us finest bits
    (ap (λ n. orders (n + order) order) n ∙ e)
    (ap (λ n. is_allowed (n + order) order finest) n ∙ a) h)

-- ---- the sum over the partitions so far

one_fewest : (bits : ℕ) (part : List ℕ) → ((k : ℕ) → k < 31 → bits ≤ part_cost 0 k part) → bits ≤ sum_by fewest (part ∷ [])
one_fewest bits part h = omega (arith, sum_by-cons fewest part [], fewest_from bits part h)

more_fewest : (bits more : ℕ) (part : List ℕ) → ((k : ℕ) → k < 31 → more ≤ part_cost 0 k part)
    → (parts : List (List ℕ)) → bits ≤ sum_by fewest parts → bits + more ≤ sum_by fewest (parts ++ (part ∷ []))
more_fewest bits more part h parts l =
    omega (arith, l, sum_by-append fewest parts (part ∷ []), one_fewest more part h)

-- each value has at least one bit
each_bit : (part : List ℕ) (k : ℕ) → length part ≤ part_cost 0 k part
each_bit part k = omega arith

pieces_bits : (count size : ℕ) (us : List ℕ) → length us ≡ count * size → length us ≤ sum_by fewest (pieces count size us)
pieces_bits zero size us e = omega (arith, e)
pieces_bits (suc count) size us e =
    let part : List ℕ = take size us in
    let rest : List ℕ = drop size us in
    let len : length rest ≡ count * size = omega (arith, length-drop size us, e) in
    omega (
      arith,
      ap (sum_by fewest) (pieces-suc count size us),
      sum_by-cons fewest part (pieces count size rest),
      length-take size us,
      length-drop size us,
      e,
      fewest_from (length part) part (λ k h. each_bit part k),
      pieces_bits count size rest len,
    )

parts_bits : (order p : ℕ) (us : List ℕ) → is_allowed (length us + order) order p ≡ true → length us ≤ sum_by fewest (parts_of order p us)
parts_bits order p us a =
    let n : ℕ = length us + order in
    let size : ℕ = n / 2 ^ p in
    let allowed = allowed_parts n order p a in
    let whole : size * 2 ^ p ≡ n = omega (arith, shr_split n p, allowed.0) in
    let part : List ℕ = take (size - order) us in
    let rest : List ℕ = drop (size - order) us in
    let len : length rest ≡ (2 ^ p - 1) * size =
    length-drop (size - order) us ∙ rest_len (length us) order size (2 ^ p - 1) (2 ^ p) (omega (arith, pow_pos p)) whole allowed.1 in
    omega (
      arith,
      ap (sum_by fewest) (parts_of-is order p us size refl),
      sum_by-cons fewest part (pieces (2 ^ p - 1) size rest),
      length-take (size - order) us,
      length-drop (size - order) us,
      fewest_from (length part) part (λ k h. each_bit part k),
      pieces_bits (2 ^ p - 1) size rest len,
    )

-- ---- a floor of sixteen by their sum

short : (k : ℕ) (us : List ℕ) → quotients 0 us + length us ≤ 2 ^ k * (quotients k us + length us)
short k [] = omega arith
short k (u ∷ us) =
    let P : ℕ = 2 ^ k in
    let whole : u / 2 ^ 0 ≡ u = omega arith in
    let split : u / P * P + u % P ≡ u = shr_split u k in
    let low : u % P < P = mod_below u P (pow_pos k) in
    let a : P * (quotients k (u ∷ us) + length (u ∷ us)) ≡ P * (u / P) + P + P * (quotients k us + length us) =
    ap (λ n. P * (n + length (u ∷ us))) (sum_by-cons (λ u. u / 2 ^ k) u us) ∙ omega arith in
    let s : quotients 0 (u ∷ us) ≡ u / 2 ^ 0 + quotients 0 us = sum_by-cons (λ u. u / 2 ^ 0) u us in
    omega (arith, a, s, whole, split, low, short k us)

more_than : (j : ℕ) → j + 1 ≤ 2 ^ j
more_than zero = omega arith
more_than (suc j) = omega (arith, more_than j, pow-suc 2 j)

-- a parameter above the one for which the sum's quotient is below 32 costs more, and one below costs no less
floor_by_total : (us : List ℕ) (total at : ℕ) → length us ≡ 16 → total ≡ quotients 0 us + 16 → 16 * 2 ^ at ≤ total → total < 32 * 2 ^ at
    → (k : ℕ) → 16 * at + total / 2 ^ at ≤ part_cost 0 k us
floor_by_total us total at n t low high k =
    let x : ℕ = total / 2 ^ at in
    let q : ℕ = quotients k us in
    let cost : part_cost 0 k us ≡ 16 * (k + 1) + q = omega (arith, ap (λ m. m * (k + 1)) n) in
    let below : x < 32 = div_below total (2 ^ at) 32 (pow_pos at) high in
    let split : x * 2 ^ at + total % 2 ^ at ≡ total = shr_split total at in
    let from : 16 ≤ x = elim (cases_lt x 16) [
      | inl less ↦
          let next : (x + 1) * 2 ^ at ≤ 16 * 2 ^ at = mul-le (x + 1) (2 ^ at) 16 (2 ^ at) (omega (arith, less)) (omega arith) in
          absurd (omega (arith, next, split, low, mod_below total (2 ^ at) (pow_pos at)))
      | inr not_less ↦ not_less
    ] in
    elim (cases_lt at k) [
      | inl above ↦ omega (arith, cost, below, above)
      | inr under ↦
          let j : ℕ = at - k in
          let reach : j + k ≡ at = omega (arith, under) in
          let power : 2 ^ at ≡ 2 ^ j * 2 ^ k = ap (λ m. 2 ^ m) (sym reach) ∙ pow-add 2 j k in
          let scaled : x * 2 ^ at ≡ 2 ^ k * (x * 2 ^ j) = ap (λ m. x * m) power ∙ omega arith in
          let enough : total ≤ 2 ^ k * (q + 16) = omega (arith, short k us, t, n, ap (λ m. 2 ^ k * (q + m)) n) in
          let most : x * 2 ^ j ≤ q + 16 = le_of k (x * 2 ^ j) (q + 16) (omega (arith, scaled, split, enough)) in
          let twice : x * (j + 1) ≤ x * 2 ^ j = mul-le-mul_left x (more_than j) in
          let sixteen : 16 * j ≤ x * j = mul-le 16 j x j from (omega arith) in
          omega (arith, cost, most, twice, sixteen, reach)
    ]

-- the parameter by the leading zeros of the sum
pub record Near (total zeros : ℕ) : Type 0 where
  pub within : zeros ≤ 27
  pub low : 16 * 2 ^ (27 - zeros) ≤ total
  pub high : total < 32 * 2 ^ (27 - zeros)

pub near : (total : ℕ) → 16 ≤ total → total < 2 ^ 32 → Near total (count_leading_zeros 32 total)
near total some few =
    let z : ℕ = count_leading_zeros 32 total in
    let found = leading_top 32 total (omega (arith, some)) few in
    let j : ℕ = found.0 in
    let within : z ≤ 27 = elim (cases_lt j 4) [
      | inl lt ↦
          let up : suc j ≤ 4 = omega (arith, lt) in
          let small : 2 ^ suc j ≤ 2 ^ 4 = pow-le-pow_right (omega arith) up in
          absurd (omega (arith, small, found.3, some))
      | inr ge ↦ omega (arith, ge, found.1)
    ] in
    let e : (27 - z) + 4 ≡ j = omega (arith, within, found.1) in
    let power : 2 ^ j ≡ 16 * 2 ^ (27 - z) = ap (λ m. 2 ^ m) (sym e) ∙ pow-add 2 (27 - z) 4 ∙ omega arith in
    record { within = within; low = omega (arith, power, found.2); high = omega (arith, power, found.3, pow-suc 2 j) }

zigzags_total : (xs : List ℤ) → sum_by zigzagged xs ≡ quotients 0 (map zigzagged xs)
zigzags_total [] = refl
zigzags_total (x ∷ xs) =
    let whole : zigzagged x / 2 ^ 0 ≡ zigzagged x = omega arith in
    omega (arith, sum_by-cons zigzagged x xs, sum_by-cons (λ u. u / 2 ^ 0) (zigzagged x) (map zigzagged xs), zigzags_total xs, whole)

pub sixteen_below : (xs : List ℤ) (total zeros : ℕ) → length xs ≡ 16 → total ≡ sum_by zigzagged xs → Near (total + 16) zeros
    → (k : ℕ) → k < 31 → 16 * (27 - zeros) + (total + 16) / 2 ^ (27 - zeros) ≤ part_cost 0 k (map zigzagged xs)
sixteen_below xs total zeros n t at k h =
    floor_by_total (map zigzagged xs) (total + 16) (27 - zeros) (length-map xs zigzagged ∙ n) (omega (arith, t, zigzags_total xs)) at.low at.high k

pub sixteen_small : (total zeros : ℕ) → Near total zeros → 16 * (27 - zeros) + total / 2 ^ (27 - zeros) ≤ 2 ^ 10
sixteen_small total zeros at =
    omega (arith, div_below total (2 ^ (27 - zeros)) 32 (pow_pos (27 - zeros)) at.high)

-- ---- the loop

abbrev pub Floor : ℕ → ℕ → List ℤ → List (List ℕ) → Type 0
Floor bits left rest parts = Front (λ done. bits ≤ sum_by fewest done) left 16 (map zigzagged rest) parts

pub floor_start : (order p : ℕ) (xs first rest : List ℤ) → (length xs + order) / 2 ^ p ≡ 16 → first ≡ take (16 - order) xs → rest ≡ drop (16 - order) xs
    → Floor (length first) (2 ^ p - 1) rest (parts_of order p (map zigzagged xs))
floor_start order p xs first rest e f r =
    let us : List ℕ = map zigzagged xs in
    let size : (length us + order) / 2 ^ p ≡ 16 = ap (λ n. (n + order) / 2 ^ p) (length-map xs zigzagged) ∙ e in
    let P : List (List ℕ) → Type 0 = λ done. length first ≤ sum_by fewest done in
    let bits : (k : ℕ) → k < 31 → length first ≤ part_cost 0 k (map zigzagged first) =
    λ k h. omega (arith, each_bit (map zigzagged first) k, length-map first zigzagged) in
    subst (λ s. Front P (2 ^ p - 1) s (map zigzagged rest) (parts_of order p us)) size
    (front_start P order p us (map zigzagged first) (map zigzagged rest)
    (ap (map zigzagged) f ∙ sym (take-map zigzagged (16 - order) xs) ∙ ap (λ s. take (s - order) us) (sym size))
    (ap (map zigzagged) r ∙ sym (drop-map zigzagged (16 - order) xs) ∙ ap (λ s. drop (s - order) us) (sym size))
    (one_fewest (length first) (map zigzagged first) bits))

pub floor_step : (bits more left m : ℕ) (rest part after : List ℤ) (parts : List (List ℕ)) → left ≡ suc m → part ≡ take 16 rest → after ≡ drop 16 rest
    → ((k : ℕ) → k < 31 → more ≤ part_cost 0 k (map zigzagged part)) → Floor bits left rest parts → Floor (bits + more) m after parts
floor_step bits more left m rest part after parts e p a below h =
    front_step (λ done. bits ≤ sum_by fewest done) (λ done. bits + more ≤ sum_by fewest done) 16 left m
    (map zigzagged rest) (map zigzagged part) (map zigzagged after) parts e
    (ap (map zigzagged) p ∙ sym (take-map zigzagged 16 rest)) (ap (map zigzagged) a ∙ sym (drop-map zigzagged 16 rest))
    (more_fewest bits more (map zigzagged part) below) h

pub rest_most : (most n : ℕ) (xs after : List ℤ) → after ≡ drop n xs → All (λ x. zigzagged x ≤ most) xs → All (λ x. zigzagged x ≤ most) after
rest_most most n xs after e h = All-same (λ x. zigzagged x ≤ most) after (drop n xs) e (All-drop (λ x. zigzagged x ≤ most) n xs h)

pub floor_end : (order finest bits left : ℕ) (xs rest : List ℤ)
    → orders (length xs + order) order ≡ range_with_len 0 (finest + 1) → is_allowed (length xs + order) order finest ≡ true
    → left ≡ 0 → Floor bits left rest (parts_of order finest (map zigzagged xs))
    → AllByRecursion (λ c. 10 + bits ≤ coding_cost order (map zigzagged xs) c) (codings (length xs + order) order)
floor_end order finest bits left xs rest e a none h =
    codings_floor_of order (map zigzagged xs) (length xs) finest bits (length-map xs zigzagged) e a
    (front_end (λ done. bits ≤ sum_by fewest done) 16 left (map zigzagged rest) (parts_of order finest (map zigzagged xs)) none h)

pub values_end : (order finest : ℕ) (xs : List ℤ) → orders (length xs + order) order ≡ range_with_len 0 (finest + 1) → is_allowed (length xs + order) order finest ≡ true
    → AllByRecursion (λ c. 10 + length xs ≤ coding_cost order (map zigzagged xs) c) (codings (length xs + order) order)
values_end order finest xs e a =
    let us : List ℕ = map zigzagged xs in
    let len : length us ≡ length xs = length-map xs zigzagged in
    codings_floor_of order us (length xs) finest (length xs) len e a
    (omega (arith, len, parts_bits order finest us (ap (λ n. is_allowed (n + order) order finest) len ∙ a)))
