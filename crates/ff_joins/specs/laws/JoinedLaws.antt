-- The laws of streams side by side.
use Rattle.std.specs.Prelude.{◌≡◌, ℕ, zero, suc, ◌+◌, ◌*◌, ◌<◌, ◌≤◌, List, [], ◌∷◌}
use Rattle.std.specs.Prelude.{◌++◌, length, take, drop, refl}
use Rattle.std.proofs.Common.{inl, inr, ap, sym, ◌∙◌, subst, arith, append-nil}
use Rattle.std.proofs.lemmas.Bool.{cases_lt}
use Rattle.std.proofs.lemmas.List.{length-append}
use mathlib.Core.List.{IsPrefix}
use Rattle.ff_stream.specs.declared.item.Item.{Item}
use Rattle.ff_stream.specs.Stream.{Stream}
use Rattle.ff_stream.specs.laws.Order.{prefix_self, prefix_trans}
use Rattle.ff_joins.specs.Joined.{Row, side_by_side, rows_to, rows_in, frame_at}
use Rattle.ff_joins.specs.Joined.{frames_to}

-- rows side by side --------------------------------------------------------------------------------------------------

side_prefix : (xs xs' ys ys' : List Row) → IsPrefix xs xs' → IsPrefix ys ys' → IsPrefix (side_by_side xs ys) (side_by_side xs' ys')
side_prefix [] xs' ys ys' p q = (side_by_side xs' ys', refl)
side_prefix (x ∷ xs) [] ys ys' p q = let e : (x ∷ xs) ++ p.0 ≡ [] = p.1 in cc
side_prefix (x ∷ xs) (x' ∷ xs') [] ys' p q = (side_by_side (x' ∷ xs') ys', refl)
side_prefix (x ∷ xs) (x' ∷ xs') (y ∷ ys) [] p q = let e : (y ∷ ys) ++ q.0 ≡ [] = q.1 in cc
side_prefix (x ∷ xs) (x' ∷ xs') (y ∷ ys) (y' ∷ ys') p q =
    let e : x ∷ (xs ++ p.0) ≡ x' ∷ xs' = p.1 in
    let f : y ∷ (ys ++ q.0) ≡ y' ∷ ys' = q.1 in
    let r = side_prefix xs xs' ys ys' (p.0, cc (e)) (q.0, cc (f)) in
    let a : x ≡ x' = cc (e) in
    let b : y ≡ y' = cc (f) in
    (r.0, ap (λ (z : Row). z ∷ (side_by_side xs ys ++ r.0)) (ap (λ (z : Row). z ++ y) a ∙ ap (λ (z : Row). x' ++ z) b) ∙ ap (λ (zs : List Row). (x' ++ y') ∷ zs) r.1)

side_left : (xs ys : List Row) → length (side_by_side xs ys) ≤ length xs
side_left [] ys = omega arith
side_left (x ∷ xs) [] = omega arith
side_left (x ∷ xs) (y ∷ ys) = let h = side_left xs ys in omega (arith, h)

side_right : (xs ys : List Row) → length (side_by_side xs ys) ≤ length ys
side_right [] ys = omega arith
side_right (x ∷ xs) [] = omega arith
side_right (x ∷ xs) (y ∷ ys) = let h = side_right xs ys in omega (arith, h)

side_least : (xs ys : List Row) (m : ℕ) → m ≤ length xs → m ≤ length ys → m ≤ length (side_by_side xs ys)
side_least [] ys m a b = a
side_least (x ∷ xs) [] m a b = b
side_least (x ∷ xs) (y ∷ ys) zero a b = omega arith
side_least (x ∷ xs) (y ∷ ys) (suc m) a b = let h = side_least xs ys m (omega (arith, a)) (omega (arith, b)) in omega (arith, h)

pub rows_prefix : (n : ℕ) (ss ts : ℕ → Stream Row) → ((p : ℕ) → IsPrefix (ss p).items (ts p).items) → IsPrefix (rows_to n ss) (rows_to n ts)
rows_prefix zero ss ts h = h 0
rows_prefix (suc n) ss ts h = side_prefix (rows_to n ss) (rows_to n ts) (ss (suc n)).items (ts (suc n)).items (rows_prefix n ss ts h) (h (suc n))

-- there are as many rows as each input has, at most
pub rows_few : (n : ℕ) (ss : ℕ → Stream Row) (p : ℕ) → p < suc n → length (rows_to n ss) ≤ rows_in ss p
rows_few zero ss zero lt = omega arith
rows_few zero ss (suc p) lt = absurd (omega arith)
rows_few (suc n) ss p lt = elim (cases_lt p (suc n)) as (λ _. length (rows_to (suc n) ss) ≤ rows_in ss p) [
  | inl less ↦ (let a = side_left (rows_to n ss) (ss (suc n)).items in let b = rows_few n ss p less in omega (arith, a, b))
  | inr le ↦ (let e : suc n ≡ p = omega (arith, lt, le) in let f : rows_in ss (suc n) ≡ rows_in ss p = ap (λ k. rows_in ss k) e in let a =
      side_right (rows_to n ss) (ss (suc n)).items in omega (arith, a, f))
]

-- and at least as many as the fewest
pub rows_many : (n : ℕ) (ss : ℕ → Stream Row) (m : ℕ) → ((p : ℕ) → p < suc n → m ≤ rows_in ss p) → m ≤ length (rows_to n ss)
rows_many zero ss m h = h 0 (omega arith)
rows_many (suc n) ss m h = side_least (rows_to n ss) (ss (suc n)).items m (rows_many n ss m (λ p lt. h p (omega arith))) (h (suc n) (omega arith))

pub prefix_long : (xs ys : List Row) → IsPrefix xs ys → length xs ≤ length ys
prefix_long xs ys p = let e : length (xs ++ p.0) ≡ length ys = ap (λ (zs : List Row). length zs) p.1 in let f = length-append xs p.0 in omega (arith, e, f)

pub prefix_equal : (xs ys : List Row) → IsPrefix xs ys → length ys ≤ length xs → ys ≡ xs
prefix_equal xs ys p le = sym p.1
    ∙ at p.0 (let e : length (xs ++ p.0) ≡ length ys = ap (λ (zs : List Row). length zs) p.1 in let f = length-append xs p.0 in omega (arith, e, f, le))
  where
    at : (zs : List Row) → length zs ≡ 0 → xs ++ zs ≡ xs
    at [] e = append-nil xs
    at (z ∷ zs) e = absurd (omega (arith, e))

-- frames ----------------------------------------------------------------------------------------------------------------

frames_more : (make : ℕ → List Row → Item) (rows : List Row) (k d : ℕ) → IsPrefix (frames_to make rows k) (frames_to make rows (d + k))
frames_more make rows k zero = let e : zero + k ≡ k = omega arith in subst (λ l. IsPrefix (frames_to make rows k) (frames_to make rows l)) (sym e)
    (prefix_self (frames_to make rows k))
frames_more make rows k (suc d) =
    let e : suc d + k ≡ suc (d + k) = omega arith in
    let one : IsPrefix (frames_to make rows (d + k)) (frames_to make rows (suc (d + k))) = (frame_at make rows (d + k) ∷ [], refl) in
    subst (λ l. IsPrefix (frames_to make rows k) (frames_to make rows l)) (sym e)
    (prefix_trans (frames_to make rows k) (frames_to make rows (d + k)) (frames_to make rows (suc (d + k))) (frames_more make rows k d) one)

pub frames_prefix : (make : ℕ → List Row → Item) (rows : List Row) (k l : ℕ) → k ≤ l → IsPrefix (frames_to make rows k) (frames_to make rows l)
frames_prefix make rows k l le = at l k le
  where
    gap : (l k : ℕ) → k ≤ l → (d : ℕ) × (d + k ≡ l)
    gap l zero le = (l, omega arith)
    gap zero (suc k) le = absurd (omega arith)
    gap (suc l) (suc k) le = let g = gap l k (omega arith) in (g.0, omega (arith, g.1))

    at : (l k : ℕ) → k ≤ l → IsPrefix (frames_to make rows k) (frames_to make rows l)
    at l k le = let g = gap l k le in subst (λ m. IsPrefix (frames_to make rows k) (frames_to make rows m)) g.1 (frames_more make rows k g.0)

taken_same : (xs zs : List Row) (a b : ℕ) → b + a ≤ length xs → take a (drop b xs) ≡ take a (drop b (xs ++ zs))
taken_same [] zs zero zero le = refl
taken_same [] zs zero (suc b) le = absurd (omega arith)
taken_same [] zs (suc a) b le = absurd (omega arith)
taken_same (x ∷ xs) zs zero zero le = refl
taken_same (x ∷ xs) zs (suc a) zero le = ap (λ (ys : List Row). x ∷ ys) (taken_same xs zs a zero (omega (arith, le)))
taken_same (x ∷ xs) zs a (suc b) le = taken_same xs zs a b (omega (arith, le))

-- the frames of rows that are there don't change with more rows
pub frames_same : (make : ℕ → List Row → Item) (rows rows' : List Row) (k : ℕ) → IsPrefix rows rows' → k * 1024 ≤ length rows
    → frames_to make rows k ≡ frames_to make rows' k
frames_same make rows rows' zero p le = refl
frames_same make rows rows' (suc k) p le =
    let le' : 1024 * k + 1024 ≤ length rows = omega (arith, le) in
    let one : frame_at make rows k ≡ frame_at make rows' k =
    ap (λ (ys : List Row). make k ys) (taken_same rows p.0 1024 (1024 * k) le' ∙ ap (λ (ys : List Row). take 1024 (drop (1024 * k) ys)) p.1) in
    ap (λ (ys : List Item). ys ++ frame_at make rows k ∷ []) (frames_same make rows rows' k p (omega (arith, le)))
    ∙ ap (λ (y : Item). frames_to make rows' k ++ y ∷ []) one
