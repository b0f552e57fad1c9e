use Rattle.std.specs.Prelude.{ℕ, zero, suc, ℤ, pos, negsuc, ◌+◌, ◌-◌, ◌*◌, ◌/◌, ◌%◌, ◌^◌, ◌==◌, ◌&&◌, nat_lt}
use Rattle.std.specs.Prelude.{if◌then◌else◌, Bool, true, false, List, [], ◌∷◌, ◌++◌, length, take, drop, replicate, map, filter, unwrap_or}
use Rattle.ff_flac_subframe.specs.rice.Least.{least}
use Rattle.std.specs.List.{flat_map, sum_by, range_with_len}
use Rattle.ff_bits.specs.Bits.{bits_of}

-- 0, -1, 1, -2 .. as 0, 1, 2, 3 ..
abbrev pub zigzagged : ℤ → ℕ
zigzagged (pos n) = 2 * n
zigzagged (negsuc n) = 2 * n + 1

-- as many zeros as the quotient, a one, and the low bits
unfoldable pub rice_bits : ℕ → ℕ → List Bool
rice_bits k u = replicate (u / 2 ^ k) false ++ true ∷ bits_of k u

-- how many these are
abbrev pub rice_length : ℕ → ℕ → ℕ
rice_length k u = u / 2 ^ k + (1 + k)

-- a partition: its parameter, and each value under it
unfoldable pub partition_bits : ℕ → ℕ → List ℕ → List Bool
partition_bits width k us = bits_of width k ++ flat_map (rice_bits k) us

-- the partitions, each under its parameter
unfoldable pub partitions_bits : ℕ → List ℕ → List (List ℕ) → List Bool
partitions_bits width [] parts = []
partitions_bits width (k ∷ ks) [] = []
partitions_bits width (k ∷ ks) (part ∷ parts) = partition_bits width k part ++ partitions_bits width ks parts

-- pieces of one size
unfoldable pub pieces : ℕ → ℕ → List ℕ → List (List ℕ)
pieces zero size us = []
pieces (suc count) size us = take size us ∷ pieces count size (drop size us)

-- the values in 2 ^ partition_order partitions, of which the first lacks as many as the predictor's order
unfoldable pub parts_of : ℕ → ℕ → List ℕ → List (List ℕ)
parts_of order partition_order us =
    let size = (length us + order) / 2 ^ partition_order in
    take (size - order) us ∷ pieces (2 ^ partition_order - 1) size (drop (size - order) us)

-- how a residual is written
pub record Coding : Type 0 where
  pub method : ℕ
  pub partition_order : ℕ
  pub ks : List ℕ

-- the bits of a residual
unfoldable pub residual_bits : ℕ → Coding → List ℕ → List Bool
residual_bits order c us = bits_of 2 c.method ++ bits_of 4 c.partition_order ++ partitions_bits (4 + c.method) c.ks (parts_of order c.partition_order us)

-- the parameters of a method
abbrev pub count_of : ℕ → ℕ
count_of method = if method == 0 then 15 else 31

unfoldable pub parameters : ℕ → List ℕ
parameters method = range_with_len 0 (count_of method)

-- each list of so many parameters, the lower ones first
unfoldable pub choices : ℕ → List ℕ → List (List ℕ)
choices zero ks = [] ∷ []
choices (suc count) ks = flat_map (λ k. map (λ rest. k ∷ rest) (choices count ks)) ks

-- a block of n samples may have 2 ^ partition_order partitions: they divide it, and are longer than the order
abbrev pub is_allowed : ℕ → ℕ → ℕ → Bool
is_allowed n order partition_order = (n % 2 ^ partition_order == 0) && nat_lt order (n / 2 ^ partition_order)

unfoldable pub orders : ℕ → ℕ → List ℕ
orders n order = filter (is_allowed n order) (range_with_len 0 9)

-- the ways to write a residual, in the order of ties
unfoldable pub codings_at : ℕ → ℕ → List Coding
codings_at method partition_order = map (λ ks. record { method = method; partition_order = partition_order; ks = ks }) (choices (2 ^ partition_order) (parameters method))

unfoldable pub codings_by : List ℕ → ℕ → List Coding
codings_by orders method = flat_map (codings_at method) orders

unfoldable pub codings : ℕ → ℕ → List Coding
codings n order = codings_by (orders n order) 0 ++ codings_by (orders n order) 1

-- ---- bits by sums

-- the quotients of a partition's values
abbrev pub quotients : ℕ → List ℕ → ℕ
quotients k us = sum_by (λ u. u / 2 ^ k) us

abbrev pub part_cost : ℕ → ℕ → List ℕ → ℕ
part_cost width k us = width + (length us * (k + 1) + quotients k us)

unfoldable pub parts_cost : ℕ → List ℕ → List (List ℕ) → ℕ
parts_cost width [] parts = 0
parts_cost width (k ∷ ks) [] = 0
parts_cost width (k ∷ ks) (part ∷ parts) = part_cost width k part + parts_cost width ks parts

-- the best parameter of a partition
unfoldable pub best_k : ℕ → List ℕ → ℕ
best_k method part = unwrap_or (least (λ k. part_cost (4 + method) k part) (parameters method)) 0

abbrev pub best_cost : ℕ → List ℕ → ℕ
best_cost method part = part_cost (4 + method) (best_k method part) part

-- the best coding with this method and this partition order
abbrev pub best_at : ℕ → ℕ → ℕ → List ℕ → Coding
best_at order method partition_order us = record { method = method; partition_order = partition_order; ks = map (best_k method) (parts_of order partition_order us) }
