use Rattle.std.proofs.Common.{◌≡◌, ℕ, zero, suc, ◌+◌, ◌-◌, ◌*◌, ◌/◌, ◌^◌, true, false, List, [], ◌∷◌, ◌++◌, length, map, drop, replicate, Some, refl, sym, ap, ◌∙◌, arith, cond, eqb}
use Rattle.std.specs.Option.{option_map}
use Rattle.std.specs.List.{flat_map, sum_by, range_with_len}
use Rattle.std.proofs.lemmas.List.{length-append, length-replicate}
use Rattle.std.proofs.lemmas.List.Sums.{sum_by-cons}
use Rattle.std.proofs.lemmas.Nat.{pow_pos}
use Rattle.ff_bits.specs.Bits.{bits_of}
use Rattle.ff_bits.proofs.BitsLemmas.{length-bits_of}
use Rattle.ff_flac_subframe.specs.rice.Least.{least}
use Rattle.ff_flac_subframe.specs.rice.Rice.{rice_bits, partition_bits, partitions_bits, part_cost, parts_cost, quotients, residual_bits, Coding, choices, parameters, best_k, best_cost, best_at, codings_at, parts_of, pieces}
use Rattle.ff_flac_subframe.proofs.RiceLemmas.LeastLemmas.{least-flat_map, least-map, least-same, least-shift, least-shift_right, pick_is}

-- ---- the bits are the sums

pub length-rice : (k u : ℕ) → length (rice_bits k u) ≡ u / 2 ^ k + (k + 1)
unfolding rice_bits
length-rice k u =
    length-append (replicate (u / 2 ^ k) false) (true ∷ bits_of k u)
    ∙ omega (arith, length-replicate (u / 2 ^ k) false, length-bits_of k u)

length-rices : (k : ℕ) (us : List ℕ) → length (flat_map (rice_bits k) us) ≡ length us * (k + 1) + quotients k us
length-rices k [] = omega arith
length-rices k (u ∷ us) =
    length-append (rice_bits k u) (flat_map (rice_bits k) us)
    ∙ omega (arith, length-rice k u, length-rices k us, sum_by-cons (λ u. u / 2 ^ k) u us)

pub length-partition : (width k : ℕ) (us : List ℕ) → length (partition_bits width k us) ≡ part_cost width k us
unfolding partition_bits
length-partition width k us =
    length-append (bits_of width k) (flat_map (rice_bits k) us) ∙ omega (arith, length-bits_of width k, length-rices k us)

pub length-partitions : (width : ℕ) (ks : List ℕ) (parts : List (List ℕ)) → length (partitions_bits width ks parts) ≡ parts_cost width ks parts
unfolding partitions_bits parts_cost
length-partitions width [] parts = refl
length-partitions width (k ∷ ks) [] = refl
length-partitions width (k ∷ ks) (part ∷ parts) =
    length-append (partition_bits width k part) (partitions_bits width ks parts)
    ∙ omega (arith, length-partition width k part, length-partitions width ks parts)

pub length-residual : (order : ℕ) (c : Coding) (us : List ℕ) → length (residual_bits order c us) ≡ 6 + parts_cost (4 + c.method) c.ks (parts_of order c.partition_order us)
unfolding residual_bits
length-residual order c us =
    length-append (bits_of 2 c.method ++ bits_of 4 c.partition_order) (partitions_bits (4 + c.method) c.ks (parts_of order c.partition_order us))
    ∙ omega (arith, length-append (bits_of 2 c.method) (bits_of 4 c.partition_order), length-bits_of 2 c.method, length-bits_of 4 c.partition_order, length-partitions (4 + c.method) c.ks (parts_of order c.partition_order us))

-- ---- the best of all lists of parameters is the list of the best parameters

parameters-cons : (method : ℕ) → (rest : List ℕ) × (parameters method ≡ 0 ∷ rest)
unfolding parameters
parameters-cons method =
    elim (eqb method 0) as (λ t. (rest : List ℕ) × (range_with_len 0 (cond t 15 31) ≡ 0 ∷ rest)) [ true ↦ (range_with_len 1 14, refl) | false ↦ (range_with_len 1 30, refl) ]

pub best_k_is : (method : ℕ) (part : List ℕ) → least (λ k. part_cost (4 + method) k part) (parameters method) ≡ Some (best_k method part)
unfolding best_k
best_k_is method part =
    let first = parameters-cons method in
    pick_is (λ k. part_cost (4 + method) k part) (parameters method) 0 first.0 0 first.1

parts_cost-cons : (width k : ℕ) (ks : List ℕ) (part : List ℕ) (parts : List (List ℕ)) → parts_cost width (k ∷ ks) (part ∷ parts) ≡ part_cost width k part + parts_cost width ks parts
unfolding parts_cost
parts_cost-cons width k ks part parts = refl

choices-suc : (count : ℕ) (ks : List ℕ) → choices (suc count) ks ≡ flat_map (λ k. map (λ rest. k ∷ rest) (choices count ks)) ks
unfolding choices
choices-suc count ks = refl

choices-none : (cost : List ℕ → ℕ) (ks : List ℕ) → least cost (choices 0 ks) ≡ Some []
unfolding choices least
choices-none cost ks = refl

pub least-choices : (method : ℕ) (parts : List (List ℕ))
    → least (λ ks. parts_cost (4 + method) ks parts) (choices (length parts) (parameters method)) ≡ Some (map (best_k method) parts)
least-choices method [] = choices-none (λ ks. parts_cost (4 + method) ks []) (parameters method)
least-choices method (part ∷ parts) =
    let width : ℕ = 4 + method in
    let K : List ℕ = parameters method in
    let C : List (List ℕ) = choices (length parts) K in
    let B : List ℕ = map (best_k method) parts in
    let cost : List ℕ → ℕ = λ ks. parts_cost width ks (part ∷ parts) in
    ap (least cost) (choices-suc (length parts) K)
    ∙ least-flat_map cost (λ k. map (λ rest. k ∷ rest) C) (λ k. k ∷ B) K
    (λ k. least-map cost (λ rest. k ∷ rest) C
    ∙ ap (option_map (λ rest. k ∷ rest))
    (least-same (λ ks. cost (k ∷ ks)) (λ ks. part_cost width k part + parts_cost width ks parts) C (λ ks. parts_cost-cons width k ks part parts)
    ∙ least-shift (part_cost width k part) (λ ks. parts_cost width ks parts) C
    ∙ least-choices method parts))
    ∙ ap (option_map (λ k. k ∷ B))
    (least-same (λ k. cost (k ∷ B)) (λ k. part_cost width k part + parts_cost width B parts) K (λ k. parts_cost-cons width k B part parts)
    ∙ least-shift_right (parts_cost width B parts) (λ k. part_cost width k part) K
    ∙ best_k_is method part)

-- ---- pieces

pub length-pieces : (count size : ℕ) (us : List ℕ) → length (pieces count size us) ≡ count
unfolding pieces
length-pieces zero size us = refl
length-pieces (suc count) size us = ap suc (length-pieces count size (drop size us))

pub length-parts_of : (order partition_order : ℕ) (us : List ℕ) → length (parts_of order partition_order us) ≡ 2 ^ partition_order
unfolding parts_of
length-parts_of order partition_order us =
    let size : ℕ = (length us + order) / 2 ^ partition_order in
    let p : length (pieces (2 ^ partition_order - 1) size (drop (size - order) us)) ≡ 2 ^ partition_order - 1 = length-pieces (2 ^ partition_order - 1) size (drop (size - order) us) in
    omega (arith, p, pow_pos partition_order)

-- the best coding with a method and a partition order
pub least-codings_at : (order method partition_order : ℕ) (us : List ℕ)
    → least (λ c. length (residual_bits order c us)) (codings_at method partition_order) ≡ Some (best_at order method partition_order us)
unfolding codings_at
least-codings_at order method partition_order us =
    let parts : List (List ℕ) = parts_of order partition_order us in
    let K : List ℕ = parameters method in
    let coding : List ℕ → Coding = λ ks. record { method = method; partition_order = partition_order; ks = ks } in
    let cost : Coding → ℕ = λ c. length (residual_bits order c us) in
    least-map cost coding (choices (2 ^ partition_order) K)
    ∙ ap (option_map coding)
    (least-same (λ ks. cost (coding ks)) (λ ks. 6 + parts_cost (4 + method) ks parts) (choices (2 ^ partition_order) K) (λ ks. length-residual order (coding ks) us)
    ∙ least-shift 6 (λ ks. parts_cost (4 + method) ks parts) (choices (2 ^ partition_order) K)
    ∙ ap (λ n. least (λ ks. parts_cost (4 + method) ks parts) (choices n K)) (sym (length-parts_of order partition_order us))
    ∙ least-choices method parts)

-- what it costs
pub parts_cost-best : (method : ℕ) (parts : List (List ℕ)) → parts_cost (4 + method) (map (best_k method) parts) parts ≡ sum_by (best_cost method) parts
unfolding parts_cost
parts_cost-best method [] = refl
parts_cost-best method (part ∷ parts) =
    ap (λ n. best_cost method part + n) (parts_cost-best method parts) ∙ sym (sum_by-cons (best_cost method) part parts)

pub length-best_at : (order method partition_order : ℕ) (us : List ℕ) → length (residual_bits order (best_at order method partition_order us) us) ≡ 6 + sum_by (best_cost method) (parts_of order partition_order us)
length-best_at order method partition_order us =
    length-residual order (best_at order method partition_order us) us ∙ ap (λ n. 6 + n) (parts_cost-best method (parts_of order partition_order us))
