use Rattle.std.proofs.Common.{◌≡◌, ℕ, zero, suc, ◌+◌, ◌-◌, ◌*◌, ◌/◌, ◌%◌, ◌^◌, ◌<◌, ◌≤◌, List, [], ◌∷◌, ◌++◌, length, take, drop, refl, sym, ap, ◌∙◌, subst, arith, cond, eqb, true, false}
use Rattle.std.specs.Option.{IfSome}
use Rattle.std.specs.List.{range_with_len, All, AllByRecursion}
use Rattle.std.proofs.lemmas.List.{append_assoc, length-take, length-drop, drop-drop, append-nil}
use Rattle.std.proofs.lemmas.List.Elements.{All-take, All-drop, All-weaker}
use Rattle.std.proofs.lemmas.List.Sums.{sum_by-le}
use Rattle.std.proofs.lemmas.Nat.{pow_pos, shr_le, shr_split, shl-shr}
use Rattle.std.proofs.Math.Nat.{pow-suc, mul-le-mul_left}
use Rattle.std.proofs.Math.Seq.{take-add}
use Rattle.ff_flac_subframe.specs.rice.Rice.{quotients, part_cost, parameters, count_of, best_k, pieces, parts_of}
use Rattle.ff_flac_subframe.proofs.RiceLemmas.LeastLemmas.{least_holds}
use Rattle.ff_flac_subframe.proofs.RiceLemmas.Costs.{best_k_is}

-- ---- parameters

pub range_below : (P : ℕ → Type 0) (a n : ℕ) → ((k : ℕ) → k < a + n → P k) → AllByRecursion P (range_with_len a n)
range_below P a zero h = tt
range_below P a (suc n) h = (h a (omega arith), range_below P (a + 1) n (λ k l. h k (omega arith)))

pub count_within : (method : ℕ) → count_of method ≤ 31
count_within method = elim (eqb method 0) as (λ t. cond t 15 31 ≤ 31) [ true ↦ omega arith | false ↦ omega arith ]

pub best_k_within : (method : ℕ) (part : List ℕ) → best_k method part < count_of method
unfolding parameters
best_k_within method part =
    let P : ℕ → Type 0 = λ k. k < count_of method in
    let held = least_holds P (λ k. part_cost (4 + method) k part) (range_with_len 0 (count_of method))
    (range_below P 0 (count_of method) (λ k h. omega (arith, h))) in
    subst (λ o. IfSome o P) (best_k_is method part) held

-- ---- two partitions as one

abbrev pub pair_parts : List (List ℕ) → List (List ℕ)
pair_parts [] = []
pair_parts (a ∷ []) = []
pair_parts (a ∷ b ∷ parts) = (a ++ b) ∷ pair_parts parts

pair_pieces : (count size : ℕ) (us : List ℕ) → pair_parts (pieces (2 * count) size us) ≡ pieces count (2 * size) us
unfolding pieces
pair_pieces zero size us = refl
pair_pieces (suc count) size us =
    let e : 2 * suc count ≡ suc (suc (2 * count)) = omega arith in
    let two : size + size ≡ 2 * size = omega arith in
    ap (λ m. pair_parts (pieces m size us)) e
    ∙ ap (λ l. (take size us ++ take size (drop size us)) ∷ l) (pair_pieces count size (drop size (drop size us)))
    ∙ ap (λ l. l ∷ pieces count (2 * size) (drop size (drop size us))) (sym (take-add size size us) ∙ ap (λ m. take m us) two)
    ∙ ap (λ l. take (2 * size) us ∷ pieces count (2 * size) l) (drop-drop size size us ∙ ap (λ m. drop m us) two)

pub twice : (n partition_order : ℕ) → n % 2 ^ suc partition_order ≡ 0 → n / 2 ^ partition_order ≡ 2 * (n / 2 ^ suc partition_order)
twice n partition_order h =
    let q : ℕ = n / 2 ^ suc partition_order in
    let split : q * 2 ^ suc partition_order + n % 2 ^ suc partition_order ≡ n = shr_split n (suc partition_order) in
    let is : 2 * q * 2 ^ partition_order ≡ n = omega (arith, split, h, ap (λ m. q * m) (pow-suc 2 partition_order)) in
    ap (λ m. m / 2 ^ partition_order) (sym is) ∙ shl-shr (2 * q) partition_order

pub parts_of-is : (order partition_order : ℕ) (us : List ℕ) (size : ℕ) → (length us + order) / 2 ^ partition_order ≡ size → parts_of order partition_order us ≡ take (size - order) us ∷ pieces (2 ^ partition_order - 1) size (drop (size - order) us)
unfolding parts_of
parts_of-is order partition_order us size e = ap (λ s. take (s - order) us ∷ pieces (2 ^ partition_order - 1) s (drop (s - order) us)) e

pub pieces-suc : (count size : ℕ) (us : List ℕ) → pieces (suc count) size us ≡ take size us ∷ pieces count size (drop size us)
unfolding pieces
pieces-suc count size us = refl

pub pair_parts-parts_of : (order partition_order : ℕ) (us : List ℕ) → (length us + order) % 2 ^ suc partition_order ≡ 0 → order < (length us + order) / 2 ^ suc partition_order
    → pair_parts (parts_of order (suc partition_order) us) ≡ parts_of order partition_order us
pair_parts-parts_of order partition_order us whole longer =
    let n : ℕ = length us + order in
    let size : ℕ = n / 2 ^ suc partition_order in
    let first : ℕ = size - order in
    let count : ℕ = 2 ^ partition_order - 1 in
    let one : 0 < 2 ^ partition_order = pow_pos partition_order in
    let e : 2 ^ suc partition_order - 1 ≡ suc (2 * count) = omega (arith, pow-suc 2 partition_order, one) in
    let f : first + size ≡ 2 * size - order = omega (arith, longer) in
    ap pair_parts
    (parts_of-is order (suc partition_order) us size refl
    ∙ ap (λ m. take first us ∷ pieces m size (drop first us)) e
    ∙ ap (λ l. take first us ∷ l) (pieces-suc (2 * count) size (drop first us)))
    ∙ ap (λ l. (take first us ++ take size (drop first us)) ∷ l) (pair_pieces count size (drop size (drop first us)))
    ∙ ap (λ l. l ∷ pieces count (2 * size) (drop size (drop first us))) (sym (take-add first size us) ∙ ap (λ m. take m us) f)
    ∙ ap (λ l. take (2 * size - order) us ∷ pieces count (2 * size) l) (drop-drop size first us ∙ ap (λ m. drop m us) f)
    ∙ sym (parts_of-is order partition_order us (2 * size) (twice n partition_order whole))

-- ---- partitions whose bits are few enough to be added

unfoldable pub Small : List ℕ → Type 0
Small part = (length part ≤ 2 ^ 15) × All (λ u. u < 2 ^ 32) part

pub quotients_small : (k : ℕ) (part : List ℕ) → All (λ u. u < 2 ^ 32) part → quotients k part ≤ length part * 2 ^ 32
quotients_small k part h =
    sum_by-le (λ u. u / 2 ^ k) (2 ^ 32) part (All-weaker (λ u. u < 2 ^ 32) (λ u. u / 2 ^ k ≤ 2 ^ 32) (λ u l. omega (arith, l, shr_le u k)) part h)

pub cost_small : (k : ℕ) (part : List ℕ) → k < 31 → length part ≤ 2 ^ 15 → All (λ u. u < 2 ^ 32) part → part_cost 0 k part ≤ 2 ^ 48
cost_small k part h l few =
    let len : length part * (k + 1) ≤ length part * 31 = mul-le-mul_left (length part) (omega (arith, h)) in
    omega (arith, len, quotients_small k part few, l)

small_take : (n : ℕ) (us : List ℕ) → Small us → Small (take n us)
unfolding Small
small_take n us h = (omega (arith, length-take n us, h.0), All-take (λ u. u < 2 ^ 32) n us h.1)

small_drop : (n : ℕ) (us : List ℕ) → Small us → Small (drop n us)
unfolding Small
small_drop n us h = (omega (arith, length-drop n us, h.0), All-drop (λ u. u < 2 ^ 32) n us h.1)

small_pieces : (count size : ℕ) (us : List ℕ) → Small us → AllByRecursion Small (pieces count size us)
unfolding pieces
small_pieces zero size us h = tt
small_pieces (suc count) size us h = (small_take size us h, small_pieces count size (drop size us) (small_drop size us h))

pub small_parts : (order partition_order : ℕ) (us : List ℕ) → Small us → AllByRecursion Small (parts_of order partition_order us)
unfolding parts_of
small_parts order partition_order us h =
    let size : ℕ = (length us + order) / 2 ^ partition_order in
    (small_take (size - order) us h, small_pieces (2 ^ partition_order - 1) size (drop (size - order) us) (small_drop (size - order) us h))

-- ---- the loops

pub rest_len : (len order s m p : ℕ) → p ≡ m + 1 → s * p ≡ len + order → order < s → len - (s - order) ≡ m * s
rest_len len order s m p e h l = omega (arith, h, l, ap (λ q. s * q) e)

pub step_len : (left m s r a : ℕ) → left ≡ m + 1 → r ≡ left * s → a + s ≡ r → a ≡ m * s
step_len left m s r a e h l = omega (arith, h, l, ap (λ q. q * s) e)

-- the parts in front of the rest, of which something holds
pub record Front (P : List (List ℕ) → Type 0) (left size : ℕ) (rest : List ℕ) (all : List (List ℕ)) : Type 0 where
  pub done : List (List ℕ)
  pub holds : P done
  pub whole : done ++ pieces left size rest ≡ all

pub front_start : (P : List (List ℕ) → Type 0) (order partition_order : ℕ) (us first rest : List ℕ)
    → first ≡ take ((length us + order) / 2 ^ partition_order - order) us → rest ≡ drop ((length us + order) / 2 ^ partition_order - order) us → P (first ∷ [])
    → Front P (2 ^ partition_order - 1) ((length us + order) / 2 ^ partition_order) rest (parts_of order partition_order us)
unfolding parts_of
front_start P order partition_order us first rest f r holds =
    let size : ℕ = (length us + order) / 2 ^ partition_order in
    record {
      done = first ∷ [];
      holds = holds;
      whole = ap (λ l. l ∷ pieces (2 ^ partition_order - 1) size rest) f ∙ ap (λ l. take (size - order) us ∷ pieces (2 ^ partition_order - 1) size l) r;
    }

pub front_step : (P Q : List (List ℕ) → Type 0) (size left m : ℕ) (rest part after : List ℕ) (all : List (List ℕ)) → left ≡ suc m → part ≡ take size rest → after ≡ drop size rest
    → ((done : List (List ℕ)) → P done → Q (done ++ (part ∷ []))) → Front P left size rest all → Front Q m size after all
front_step P Q size left m rest part after all e p a next h = record {
  done = h.done ++ (part ∷ []);
  holds = next h.done h.holds;
  whole = ap (λ l. (h.done ++ (part ∷ [])) ++ pieces m size l) a
      ∙ append_assoc h.done (part ∷ []) (pieces m size (drop size rest))
      ∙ ap (λ l. h.done ++ (l ∷ pieces m size (drop size rest))) p
      ∙ ap (λ l. h.done ++ l) (sym (ap (λ n. pieces n size rest) e ∙ pieces-suc m size rest))
      ∙ h.whole;
}

pub front_end : (P : List (List ℕ) → Type 0) (size left : ℕ) (rest : List ℕ) (all : List (List ℕ)) → left ≡ 0 → Front P left size rest all → P all
unfolding pieces
front_end P size left rest all e h =
    subst P (sym (append-nil h.done) ∙ ap (λ n. h.done ++ pieces n size rest) (sym e) ∙ h.whole) h.holds
