use Rattle.std.proofs.Common.{◌≡◌, ℕ, set, zero, suc, ◌+◌, ◌-◌, ◌*◌, ◌/◌, ◌%◌, ◌^◌, ◌<◌, ◌≤◌, min, true, refl, sym, ap, ◌∙◌, subst, arith}
use Rattle.std.proofs.Common.{List, [], ◌∷◌, ◌++◌, length, length-set, get_or, map, take, drop}
use Rattle.std.specs.List.{range_with_len, fold, sum, sum_by, All, AllByRecursion}
use Rattle.std.specs.Prelude.{Vec}
use lib.Lanes.{zip2, pair_sums}
use Rattle.std.proofs.Math.Path.{fun_ext}
use Rattle.std.proofs.Math.Seq.{take-append_seam}
use Rattle.std.proofs.lemmas.Nat.{pow_pos, one_shl}
use Rattle.std.proofs.Math.Nat.{pow-le-pow_right}
use Rattle.std.proofs.lemmas.Grind.{get_or-set_at}
use Rattle.std.proofs.lemmas.List.{length-append, append_assoc, append-nil, drop-drop, drop_more, drop-set-lt, take_more, take_more_set, take_all}
use Rattle.std.proofs.lemmas.List.{take-map, drop-map, take-append-drop, length-map, length-take, length-drop, map_push, map-append, get_or-map}
use Rattle.std.proofs.lemmas.List.Elements.{All-drop, All-same, All-map, All-from_recursion, All-from_get_or, All-weaker, All-take, All-head, All-tail}
use Rattle.std.proofs.lemmas.List.FromFn.{map-range_with_len_more, length-map-range_with_len, take-map-range_with_len}
use Rattle.std.proofs.lemmas.List.Sums.{fold_push, fold-append, sum_by-append, sum_by-cons, sum_by-le}
use Rattle.std.proofs.lemmas.Simd.{map-map, zip2-map, get_or-zip2, length-zip2}
use Rattle.ff_flac_subframe.specs.rice.Rice.{is_allowed, count_of, part_cost, best_cost, pieces, parts_of}
use Rattle.ff_flac_subframe.specs.laws.rice.Columns.{column, columns, least_each, lowest, items_of}
use Rattle.ff_flac_subframe.specs.laws.rice.Spans.{Spans, IsSpan}
use Rattle.ff_flac_subframe.proofs.RiceLemmas.Costs.{length-parts_of}
use Rattle.ff_flac_subframe.proofs.RiceLemmas.PartLemmas.{parts_of-is, pair_parts, pair_parts-parts_of, Small, small_parts, cost_small}
use Rattle.ff_flac_subframe.proofs.RiceLemmas.SpanLemmas.{lowest-one, lowest-more, spanned}
use Rattle.ff_flac_subframe.proofs.RiceLemmas.Orders.{allowed_parts, range_between}

-- ---- a column that is filled

pub pieces_push : (i size : ℕ) (us : List ℕ) → pieces (suc i) size us ≡ pieces i size us ++ (take size (drop (size * i) us) ∷ [])
unfolding pieces
pieces_push zero size us =
    let none : 0 ≡ size * 0 = omega arith in
    ap (λ n. take size (drop n us) ∷ []) none
pieces_push (suc i) size us =
    let e : size + size * i ≡ size * suc i = omega arith in
    ap (λ l. take size us ∷ l) (pieces_push i size (drop size us))
    ∙ ap (λ l. take size us ∷ (pieces i size (drop size us) ++ (take size l ∷ []))) (drop-drop (size * i) size us ∙ ap (λ n. drop n us) e)

pub filled_first : (k size : ℕ) (xs us : List ℕ) → 0 < length xs → take (0 + 1) xs ≡ get_or xs 0 0 ∷ column k (pieces 0 size us)
unfolding pieces
filled_first k size [] us h = absurd (omega (arith, h))
filled_first k size (x ∷ xs) us h = refl

pub filled_more : (k size : ℕ) (xs us : List ℕ) (first i cost : ℕ) → i + 1 < length xs → cost ≡ part_cost 0 k (take (size * i + size - size * i) (drop (size * i) us))
    → take (i + 1) xs ≡ first ∷ column k (pieces i size us) → take (i + 1 + 1) (set xs (i + 1) cost) ≡ first ∷ column k (pieces (i + 1) size us)
filled_more k size xs us first i cost h e is =
    let next : suc i ≡ i + 1 = omega arith in
    let whole : size * i + size - size * i ≡ size = omega arith in
    take_more_set xs (i + 1) cost h
    ∙ ap (λ l. l ++ (cost ∷ [])) is
    ∙ ap (λ n. (first ∷ column k (pieces i size us)) ++ (n ∷ [])) (e ∙ ap (λ n. part_cost 0 k (take n (drop (size * i) us))) whole)
    ∙ ap (λ l. first ∷ l) (sym (map_push (part_cost 0 k) (pieces i size us) (take size (drop (size * i) us))))
    ∙ ap (λ l. first ∷ column k l) (sym (pieces_push i size us) ∙ ap (λ n. pieces n size us) next)

pub filled_all : (k size : ℕ) (xs us : List ℕ) (first i count : ℕ) → i ≡ count → length xs ≤ i + 1
    → take (i + 1) xs ≡ first ∷ column k (pieces i size us) → xs ≡ first ∷ column k (pieces count size us)
filled_all k size xs us first i count e l is =
    sym (take_all (i + 1) xs l) ∙ is ∙ ap (λ n. first ∷ column k (pieces n size us)) e

pub column_filled : (k order partition_order : ℕ) (us first rest zeros begun costs : List ℕ) (len cost : ℕ) → length zeros ≡ len → len ≡ 2 ^ partition_order
    → cost ≡ part_cost 0 k first → first ≡ take ((length us + order) / 2 ^ partition_order - order) us
    → rest ≡ drop ((length us + order) / 2 ^ partition_order - order) us
    → begun ≡ set zeros 0 cost → costs ≡ get_or begun 0 0 ∷ column k (pieces (length begun - 1) ((length us + order) / 2 ^ partition_order) rest)
    → take len (costs ++ drop (length costs) (set zeros 0 cost)) ≡ column k (parts_of order partition_order us)
column_filled k order partition_order us first rest zeros begun costs len cost l e c f r b is =
    let size : ℕ = (length us + order) / 2 ^ partition_order in
    let some_left : 0 < length zeros = omega (arith, l, e, pow_pos partition_order) in
    let others : length begun - 1 ≡ 2 ^ partition_order - 1 = omega (arith, ap length b, length-set zeros 0 cost, l, e) in
    let head : get_or begun 0 0 ≡ part_cost 0 k (take (size - order) us) =
    ap (λ xs. get_or xs 0 0) b ∙ get_or-set_at zeros 0 0 cost 0 refl some_left ∙ c ∙ ap (part_cost 0 k) f in
    let whole : costs ≡ column k (parts_of order partition_order us) =
    is
    ∙ ap (λ n. n ∷ column k (pieces (length begun - 1) size rest)) head
    ∙ ap (λ n. part_cost 0 k (take (size - order) us) ∷ column k (pieces n size rest)) others
    ∙ ap (λ l. part_cost 0 k (take (size - order) us) ∷ column k (pieces (2 ^ partition_order - 1) size l)) r
    ∙ ap (column k) (sym (parts_of-is order partition_order us size refl)) in
    let parts : List (List ℕ) = parts_of order partition_order us in
    let all : len ≡ length costs = omega (arith, ap length whole, length-map parts (part_cost 0 k), length-parts_of order partition_order us, e) in
    ap (λ n. take n (costs ++ drop (length costs) (set zeros 0 cost))) all ∙ take-append_seam costs (drop (length costs) (set zeros 0 cost)) ∙ whole

pub columns_none : (low : ℕ) (parts cols : List (List ℕ)) → cols ≡ [] → cols ≡ columns low (low - low) parts
unfolding columns
columns_none low parts cols e =
    let none : 0 ≡ low - low = omega arith in
    e ∙ ap (λ n. map (λ k. column k parts) (range_with_len low n)) none

pub columns_push : (low k : ℕ) (parts old new : List (List ℕ)) (costs : List ℕ) → low ≤ k → new ≡ old ++ (costs ∷ [])
    → old ≡ columns low (k - low) parts → costs ≡ column k parts → new ≡ columns low (k + 1 - low) parts
unfolding columns
columns_push low k parts old new costs from e is last =
    let reach : low + (k - low) ≡ k = omega (arith, from) in
    let next : k - low + 1 ≡ k + 1 - low = omega (arith, from) in
    e
    ∙ ap (λ l. l ++ (costs ∷ [])) is
    ∙ ap (λ c. columns low (k - low) parts ++ (c ∷ [])) last
    ∙ sym (map-range_with_len_more (λ k. column k parts) low (k - low) k reach)
    ∙ ap (λ n. columns low n parts) next

-- ---- a column that is halved

cost_both : (k : ℕ) (p q : List ℕ) → part_cost 0 k p + part_cost 0 k q ≡ part_cost 0 k (p ++ q)
cost_both k p q =
    let len : length (p ++ q) * (k + 1) ≡ length p * (k + 1) + length q * (k + 1) = ap (λ n. n * (k + 1)) (length-append p q) ∙ omega arith in
    omega (arith, len, sum_by-append (λ u. u / 2 ^ k) p q)

column_halved : (k : ℕ) (parts : List (List ℕ)) → pair_sums (column k parts) ≡ column k (pair_parts parts)
column_halved k [] = refl
column_halved k (p ∷ []) = refl
column_halved k (p ∷ q ∷ parts) =
    ap (λ l. (part_cost 0 k p + part_cost 0 k q) ∷ l) (column_halved k parts) ∙ ap (λ n. n ∷ column k (pair_parts parts)) (cost_both k p q)

columns_halved : (low count : ℕ) (parts : List (List ℕ)) → map pair_sums (columns low count parts) ≡ columns low count (pair_parts parts)
unfolding columns
columns_halved low count parts =
    map-map pair_sums (λ k. column k parts) (range_with_len low count)
    ∙ ap (λ f. map f (range_with_len low count)) (fun_ext (λ k. column_halved k parts))

two_more : (xs : List ℕ) (i : ℕ) → 2 * i + 1 < length xs → drop (2 * i) xs ≡ get_or xs (2 * i) 0 ∷ get_or xs (2 * i + 1) 0 ∷ drop (2 * (i + 1)) xs
two_more xs i h =
    let e : 2 * i + 1 + 1 ≡ 2 * (i + 1) = omega arith in
    drop_more xs (2 * i) 0 (omega arith)
    ∙ ap (λ l. get_or xs (2 * i) 0 ∷ l) (drop_more xs (2 * i + 1) 0 h ∙ ap (λ n. get_or xs (2 * i + 1) 0 ∷ drop n xs) e)

pub two_small : (xs : List ℕ) (i : ℕ) → 2 * i + 1 < length xs → All (λ cost. cost ≤ 2 ^ 48) (drop (2 * i) xs) → get_or xs (2 * i) 0 + get_or xs (2 * i + 1) 0 ≤ 2 ^ 49
two_small xs i h small =
    let P : ℕ → Type 0 = λ cost. cost ≤ 2 ^ 48 in
    let rest : List ℕ = drop (2 * (i + 1)) xs in
    let both = All-same P (get_or xs (2 * i) 0 ∷ get_or xs (2 * i + 1) 0 ∷ rest) (drop (2 * i) xs) (sym (two_more xs i h)) small in
    let left : get_or xs (2 * i) 0 ≤ 2 ^ 48 = All-head P (get_or xs (2 * i) 0) (get_or xs (2 * i + 1) 0 ∷ rest) both in
    let right : get_or xs (2 * i + 1) 0 ≤ 2 ^ 48 = All-head P (get_or xs (2 * i + 1) 0) rest (All-tail P (get_or xs (2 * i) 0) (get_or xs (2 * i + 1) 0 ∷ rest) both) in
    omega (arith, left, right)

pub halve_step : (xs : List ℕ) (i : ℕ) → 2 * i + 1 < length xs
    → take (i + 1) (set xs i (get_or xs (2 * i) 0 + get_or xs (2 * i + 1) 0)) ++ pair_sums (drop (2 * (i + 1)) (set xs i (get_or xs (2 * i) 0 + get_or xs (2 * i + 1) 0)))
    ≡ take i xs ++ pair_sums (drop (2 * i) xs)
halve_step xs i h =
    let both : ℕ = get_or xs (2 * i) 0 + get_or xs (2 * i + 1) 0 in
    let rest : List ℕ = drop (2 * (i + 1)) xs in
    ap (λ l. l ++ pair_sums (drop (2 * (i + 1)) (set xs i both))) (take_more_set xs i both (omega arith))
    ∙ ap (λ l. (take i xs ++ (both ∷ [])) ++ pair_sums l) (drop-set-lt (2 * (i + 1)) xs i both (omega arith))
    ∙ append_assoc (take i xs) (both ∷ []) (pair_sums rest)
    ∙ ap (λ l. take i xs ++ l) (sym (ap pair_sums (two_more xs i h)))

pub halve_small : (P : ℕ → Type 0) (xs : List ℕ) (i both : ℕ) → All P (drop (2 * i) xs) → All P (drop (2 * (i + 1)) (set xs i both))
halve_small P xs i both h =
    let e : 2 * i + 2 ≡ 2 * (i + 1) = omega arith in
    All-same P (drop (2 * (i + 1)) (set xs i both)) (drop 2 (drop (2 * i) xs))
    (drop-set-lt (2 * (i + 1)) xs i both (omega arith) ∙ sym (drop-drop 2 (2 * i) xs ∙ ap (λ n. drop n xs) e))
    (All-drop P 2 (drop (2 * i) xs) h)

one_left : (xs : List ℕ) → length xs ≤ 1 → pair_sums xs ≡ []
one_left [] h = refl
one_left (x ∷ []) h = refl
one_left (x ∷ y ∷ xs) h = absurd (omega (arith, h))

pub halve_end : (xs ys : List ℕ) (i half : ℕ) → half ≡ i → length xs ≤ 2 * i + 1 → take i xs ++ pair_sums (drop (2 * i) xs) ≡ ys → take half xs ≡ ys
halve_end xs ys i half e l h =
    ap (λ n. take n xs) e
    ∙ sym (append-nil (take i xs))
    ∙ ap (λ l. take i xs ++ l) (sym (one_left (drop (2 * i) xs) (omega (arith, length-drop (2 * i) xs, l))))
    ∙ h

pub columns_more : (cols old : List (List ℕ)) (i : ℕ) (new : List ℕ) → i < length cols → length cols ≡ length old → get_or cols i [] ≡ get_or old i []
    → new ≡ pair_sums (get_or cols i []) → take i cols ≡ take i (map pair_sums old) → take (i + 1) (set cols i new) ≡ take (i + 1) (map pair_sums old)
columns_more cols old i new h l same e is =
    let all : List (List ℕ) = map pair_sums old in
    let here : get_or all i [] ≡ new = get_or-map pair_sums old i [] [] (omega (arith, h, l)) ∙ ap pair_sums (sym same) ∙ sym e in
    take_more_set cols i new h
    ∙ ap (λ l. l ++ (new ∷ [])) is
    ∙ ap (λ c. take i all ++ (c ∷ [])) (sym here)
    ∙ sym (take_more all i [] (omega (arith, length-map old pair_sums, h, l)))

-- ---- the items of vectors

pub item_at : {Z : Type 0} (vectors : List (Vec ℕ Z)) (i : ℕ) (v : Vec ℕ Z) → i < length vectors → v ≡ get_or vectors i v → v.items ≡ get_or (items_of vectors) i []
item_at vectors i v h e = ap (λ w. w.items) e ∙ sym (get_or-map (λ v. v.items) vectors i v [] h)

pub at_item : {Z : Type 0} (P : List ℕ → Type 0) (vectors : List (Vec ℕ Z)) (i : ℕ) (v : Vec ℕ Z) → i < length vectors → v ≡ get_or vectors i v
    → All P (items_of vectors) → P v.items
at_item P vectors i v h e all = subst P (sym (item_at vectors i v h e)) (all i [] (omega (arith, h, length-map vectors (λ v. v.items))))

pub items_front : {Z : Type 0} (P : List ℕ → Type 0) (vectors front : List (Vec ℕ Z)) (n : ℕ) → front ≡ take n vectors → All P (items_of vectors) → All P (items_of front)
items_front P vectors front n e h =
    All-same P (items_of front) (take n (items_of vectors)) (ap items_of e ∙ sym (take-map (λ v. v.items) n vectors)) (All-take P n (items_of vectors) h)

pub items_back : {Z : Type 0} (P : List ℕ → Type 0) (vectors back : List (Vec ℕ Z)) (n : ℕ) → back ≡ drop n vectors → All P (items_of vectors) → All P (items_of back)
items_back P vectors back n e h =
    All-same P (items_of back) (drop n (items_of vectors)) (ap items_of e ∙ sym (drop-map (λ v. v.items) n vectors)) (All-drop P n (items_of vectors) h)

pub items_behind : {Z : Type 0} (P : List ℕ → Type 0) (vectors : List (Vec ℕ Z)) (n : ℕ) → All P (items_of vectors) → All P (items_of (take n (drop 1 vectors)))
items_behind P vectors n h = items_front P (drop 1 vectors) (take n (drop 1 vectors)) n refl (items_back P vectors (drop 1 vectors) 1 refl h)

-- ---- what the columns of a level are like

columns_all : (P : List ℕ → Type 0) (low count : ℕ) (parts : List (List ℕ)) → ((k : ℕ) → low ≤ k → k < low + count → P (column k parts)) → All P (columns low count parts)
unfolding columns
columns_all P low count parts h =
    All-map P (λ k. column k parts) (range_with_len low count)
    (All-from_recursion (λ k. P (column k parts)) (range_with_len low count) (range_between (λ k. P (column k parts)) low count h))

pub columns_count : {Z : Type 0} (low count : ℕ) (parts : List (List ℕ)) (vectors : List (Vec ℕ Z)) → items_of vectors ≡ columns low count parts → length vectors ≡ count
unfolding columns
columns_count low count parts vectors e = sym (length-map vectors (λ v. v.items)) ∙ ap length e ∙ length-map-range_with_len (λ k. column k parts) low count

part_small : (k : ℕ) (part : List ℕ) → k < 31 → Small part → part_cost 0 k part ≤ 2 ^ 48
unfolding Small
part_small k part h s = cost_small k part h s.0 s.1

column_small : (k : ℕ) (parts : List (List ℕ)) → k < 31 → AllByRecursion Small parts → All (λ cost. cost ≤ 2 ^ 48) (column k parts)
column_small k parts h s =
    All-map (λ cost. cost ≤ 2 ^ 48) (part_cost 0 k) parts
    (All-weaker Small (λ part. part_cost 0 k part ≤ 2 ^ 48) (λ part. part_small k part h) parts (All-from_recursion Small parts s))

pub columns_small : (low count order partition_order : ℕ) (us : List ℕ) (cols : List (List ℕ)) → cols ≡ columns low count (parts_of order partition_order us)
    → low + count ≤ 31 → length us ≤ 2 ^ 15 → ((i : ℕ) → get_or us i 0 < 2 ^ 32) → All (All (λ cost. cost ≤ 2 ^ 48)) cols
unfolding Small
columns_small low count order partition_order us cols e few l h =
    let parts : List (List ℕ) = parts_of order partition_order us in
    let small : AllByRecursion Small parts = small_parts order partition_order us (l, All-from_get_or (λ u. u < 2 ^ 32) us 0 (λ i _. h i)) in
    All-same (All (λ cost. cost ≤ 2 ^ 48)) cols (columns low count parts) e
    (columns_all (All (λ cost. cost ≤ 2 ^ 48)) low count parts (λ k _ below. column_small k parts (omega (arith, below, few)) small))

pub columns_same : (low count order partition_order n : ℕ) (us : List ℕ) (cols : List (List ℕ)) → cols ≡ columns low count (parts_of order partition_order us)
    → n ≡ 2 ^ partition_order → All (λ costs. length costs ≡ n) cols
columns_same low count order partition_order n us cols e is =
    let parts : List (List ℕ) = parts_of order partition_order us in
    All-same (λ costs. length costs ≡ n) cols (columns low count parts) e
    (columns_all (λ costs. length costs ≡ n) low count parts (λ k _ _. length-map parts (part_cost 0 k) ∙ length-parts_of order partition_order us ∙ sym is))

columns_next : (low count order p : ℕ) (us : List ℕ) (cols new : List (List ℕ)) → is_allowed (length us + order) order (suc p) ≡ true
    → cols ≡ columns low count (parts_of order (suc p) us) → new ≡ map pair_sums cols → new ≡ columns low count (parts_of order p us)
columns_next low count order p us cols new a e h =
    let parts = allowed_parts (length us + order) order (suc p) a in
    h ∙ ap (map pair_sums) e ∙ columns_halved low count (parts_of order (suc p) us) ∙ ap (columns low count) (pair_parts-parts_of order p us parts.0 parts.1)

pub columns_after : (low count order partition_order p : ℕ) (us : List ℕ) (cols new : List (List ℕ)) → partition_order ≡ suc p
    → is_allowed (length us + order) order partition_order ≡ true → cols ≡ columns low count (parts_of order partition_order us) → new ≡ map pair_sums cols
    → new ≡ columns low count (parts_of order p us)
columns_after low count order partition_order p us cols new e a is h =
    columns_next low count order p us cols new (subst (λ m. is_allowed (length us + order) order m ≡ true) e a)
    (is ∙ ap (λ m. columns low count (parts_of order m us)) e) h

-- ---- the least of each partition's bits

least_from : (low more : ℕ) (parts : List (List ℕ))
    → fold (zip2 min) (column low parts) (map (λ k. column k parts) (range_with_len (low + 1) more)) ≡ map (λ part. lowest (λ k. part_cost 0 k part) low more) parts
least_from low zero parts = sym (ap (λ f. map f parts) (fun_ext (λ part. lowest-one (λ k. part_cost 0 k part) low)))
least_from low (suc more) parts =
    let others : List (List ℕ) = map (λ k. column k parts) (range_with_len (low + 1) more) in
    let last : List ℕ = column (low + suc more) parts in
    let next : suc more ≡ more + 1 = omega arith in
    ap (λ n. fold (zip2 min) (column low parts) (map (λ k. column k parts) (range_with_len (low + 1) n))) next
    ∙ ap (fold (zip2 min) (column low parts)) (map-range_with_len_more (λ k. column k parts) (low + 1) more (low + suc more) (omega arith))
    ∙ fold_push (zip2 min) (column low parts) others last
    ∙ ap (λ l. zip2 min l last) (least_from low more parts)
    ∙ zip2-map min (λ part. lowest (λ k. part_cost 0 k part) low more) (part_cost 0 (low + suc more)) parts
    ∙ sym (ap (λ f. map f parts) (fun_ext (λ part. lowest-more (λ k. part_cost 0 k part) low more)))

least_each-columns : (low more : ℕ) (parts : List (List ℕ)) → least_each (columns low (suc more) parts) ≡ map (λ part. lowest (λ k. part_cost 0 k part) low more) parts
unfolding columns least_each
least_each-columns low more parts = least_from low more parts

sum_with : (width : ℕ) (f g : List ℕ → ℕ) (parts : List (List ℕ)) → AllByRecursion (λ part. width + g part ≡ f part) parts
    → width * length parts + sum (map g parts) ≡ sum_by f parts
sum_with width f g [] h = omega arith
sum_with width f g (part ∷ parts) h =
    omega (arith, h.0, sum_with width f g parts h.1, sum_by-cons (λ x. x) (g part) (map g parts), sum_by-cons f part parts)

all_spanned : (method low high top : ℕ) (parts : List (List ℕ)) → AllByRecursion (Spans low high) parts
    → low < top → top ≤ high → top ≤ count_of method → (top < count_of method → top ≡ high)
    → AllByRecursion (λ part. 4 + method + lowest (λ k. part_cost 0 k part) low (top - 1 - low) ≡ best_cost method part) parts
all_spanned method low high top [] s a b c d = tt
all_spanned method low high top (part ∷ parts) s a b c d = (spanned method low high top part s.0 a b c d, all_spanned method low high top parts s.1 a b c d)

level : (method low high top n cost : ℕ) (cols parts : List (List ℕ)) → cols ≡ columns low (top - low) parts → n ≡ length parts → AllByRecursion (Spans low high) parts
    → low < top → top ≤ high → top ≤ count_of method → (top < count_of method → top ≡ high)
    → cost ≡ (4 + method) * n + sum (least_each cols) → cost ≡ sum_by (best_cost method) parts
level method low high top n cost cols parts e len s a b c d is =
    let more : ℕ = top - 1 - low in
    let some_left : top - low ≡ suc more = omega (arith, a) in
    is
    ∙ ap (λ l. (4 + method) * n + sum (least_each l)) (e ∙ ap (λ m. columns low m parts) some_left)
    ∙ ap (λ l. (4 + method) * n + sum l) (least_each-columns low more parts)
    ∙ ap (λ m. (4 + method) * m + sum (map (λ part. lowest (λ k. part_cost 0 k part) low more) parts)) len
    ∙ sum_with (4 + method) (best_cost method) (λ part. lowest (λ k. part_cost 0 k part) low more) parts (all_spanned method low high top parts s a b c d)

columns_take : (low count n : ℕ) (parts : List (List ℕ)) → n ≤ count → take n (columns low count parts) ≡ columns low n parts
unfolding columns
columns_take low count n parts h = take-map-range_with_len (λ k. column k parts) low count n h

pub first_level : (low high n cost : ℕ) (cols parts : List (List ℕ)) → IsSpan low high → cols ≡ columns low (high - low) parts → n ≡ length parts
    → AllByRecursion (Spans low high) parts → cost ≡ 4 * n + sum (least_each (take (min high 15 - low) cols)) → cost ≡ sum_by (best_cost 0) parts
first_level low high n cost cols parts span e len s is =
    let top : ℕ = min high 15 in
    level 0 low high top n cost (take (top - low) cols) parts (ap (take (top - low)) e ∙ columns_take low (high - low) (top - low) parts (omega arith)) len s
    (omega (arith, span.first, span.some_parameter)) (omega arith) (omega arith) (λ l. omega (arith, l)) is

pub second_level : (low high n cost : ℕ) (cols parts : List (List ℕ)) → IsSpan low high → cols ≡ columns low (high - low) parts → n ≡ length parts
    → AllByRecursion (Spans low high) parts → cost ≡ 5 * n + sum (least_each cols) → cost ≡ sum_by (best_cost 1) parts
second_level low high n cost cols parts span e len s is =
    level 1 low high high n cost cols parts e len s span.some_parameter (omega arith) span.last (λ l. refl) is

-- ---- the least in each place

pub lower_more : (xs old ys : List ℕ) (i lower : ℕ) → i < length xs → length xs ≡ length ys → length old ≡ length ys → get_or xs i 0 ≡ get_or old i 0
    → lower ≡ min (get_or xs i 0) (get_or ys i 0) → take i xs ≡ take i (zip2 min old ys) → take (i + 1) (set xs i lower) ≡ take (i + 1) (zip2 min old ys)
lower_more xs old ys i lower h l m same e is =
    let all : List ℕ = zip2 min old ys in
    let here : get_or all i 0 ≡ lower =
    get_or-zip2 min old ys i 0 0 0 (omega (arith, h, l, m)) (omega (arith, h, l)) ∙ ap (λ n. min n (get_or ys i 0)) (sym same) ∙ sym e in
    take_more_set xs i lower h
    ∙ ap (λ l. l ++ (lower ∷ [])) is
    ∙ ap (λ n. take i all ++ (n ∷ [])) (sym here)
    ∙ sym (take_more all i 0 (omega (arith, length-zip2 min old ys m, h, l, m)))

pub least_all : (front back : List (List ℕ)) → 0 < length front → fold (zip2 min) (least_each front) back ≡ least_each (front ++ back)
unfolding least_each
least_all [] back h = absurd (omega (arith, h))
least_all (xs ∷ front) back h = sym (fold-append (zip2 min) xs front back)

pub least_put : {Z : Type 0} (vectors : List (Vec ℕ Z)) (v : Vec ℕ Z) (xs least : List ℕ) → 0 < length vectors → v ≡ get_or vectors 0 v → xs ≡ v.items
    → least ≡ fold (zip2 min) xs (items_of (take (length vectors - 1) (drop 1 vectors))) → least ≡ least_each (items_of vectors)
unfolding least_each
least_put [] v xs least h e f is = absurd (omega (arith, h))
least_put (w ∷ vectors) v xs least h e f is =
    is
    ∙ ap (λ l. fold (zip2 min) l (items_of (take (length (w ∷ vectors) - 1) vectors))) (f ∙ ap (λ v. v.items) e)
    ∙ ap (λ l. fold (zip2 min) w.items (items_of l)) (take_all (length (w ∷ vectors) - 1) vectors (omega arith))

pub least_all_of : {Z : Type 0} (vectors front back : List (Vec ℕ Z)) (n : ℕ) (first least : List ℕ) → front ≡ take n vectors → back ≡ drop n vectors → 0 < length front
    → first ≡ least_each (items_of front) → least ≡ fold (zip2 min) first (items_of back) → least ≡ least_each (items_of vectors)
least_all_of vectors front back n first least e f some_left is all =
    all
    ∙ ap (λ l. fold (zip2 min) l (items_of back)) is
    ∙ least_all (items_of front) (items_of back) (omega (arith, length-map front (λ v. v.items), some_left))
    ∙ ap least_each (sym (map-append (λ v. v.items) front back) ∙ ap items_of (ap (λ l. l ++ back) e ∙ ap (λ l. take n vectors ++ l) f ∙ take-append-drop n vectors))

-- ---- the sum of the least

below_first : (xs ys : List ℕ) → sum (zip2 min xs ys) ≤ sum xs
below_first [] ys = omega arith
below_first (x ∷ xs) [] = omega arith
below_first (x ∷ xs) (y ∷ ys) = omega (arith, sum_by-cons (λ x. x) x xs, sum_by-cons (λ x. x) (min x y) (zip2 min xs ys), below_first xs ys)

all_below : (xs : List ℕ) (others : List (List ℕ)) → sum (fold (zip2 min) xs others) ≤ sum xs
all_below xs [] = omega arith
all_below xs (ys ∷ others) = omega (arith, all_below (zip2 min xs ys) others, below_first xs ys)

pub least_small : (n : ℕ) (cols : List (List ℕ)) → n ≤ 256 → All (λ costs. length costs ≡ n) cols
    → All (All (λ cost. cost ≤ 2 ^ 48)) cols → sum (least_each cols) ≤ 2 ^ 56
unfolding least_each
least_small n [] l len small = omega arith
least_small n (xs ∷ others) l len small =
    let each : All (λ cost. cost ≤ 2 ^ 48) xs = All-head (All (λ cost. cost ≤ 2 ^ 48)) xs others small in
    omega (arith, all_below xs others, sum_by-le (λ x. x) (2 ^ 48) xs each, All-head (λ costs. length costs ≡ n) xs others len, l)

-- ---- room for a level's least

power_less : (i j : ℕ) → i ≤ j → 2 ^ i ≤ 2 ^ j
power_less i j h = pow-le-pow_right (omega arith) h

pub places_are : (p finest : ℕ) (xs : List ℕ) → p ≤ finest → finest ≤ 8 → length xs ≡ 2 ^ finest → length (take ((1 * 2 ^ p) % 2 ^ 64) xs) ≡ 2 ^ p
places_are p finest xs h few l =
    let places : ℕ = (1 * 2 ^ p) % 2 ^ 64 in
    omega (arith, length-take places xs, one_shl p 64 (omega (arith, h, few)), l, power_less p finest h)

pub places_few : (p n : ℕ) → n ≡ 2 ^ p → p ≤ 8 → n ≤ 256
places_few p n e h = omega (arith, e, power_less p 8 h)

pub room_kept : (n : ℕ) (xs room : List ℕ) → n ≡ length room → length (take n (xs ++ drop (length xs) room)) ≡ n
room_kept n xs room e =
    let rest : List ℕ = drop (length xs) room in
    omega (arith, length-take n (xs ++ rest), length-append xs rest, length-drop (length xs) room, e)
