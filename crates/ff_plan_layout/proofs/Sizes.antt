-- Lengths of lists, and the streams of outputs in their places.
use Rattle.std.proofs.Common.{◌≡◌, ℕ, zero, suc, ◌+◌, ◌<◌, ◌≤◌, ◌⊎◌, inl, inr, List, [], ◌∷◌, ◌++◌, map, length, refl, sym, ap, arith}
use Rattle.std.specs.List.{AllByRecursion, range_with_len}
use Rattle.ff_plan_layout.specs.declared.layout.OutStream.{OutStream}
use Rattle.ff_plan_layout.specs.declared.layout.Placed.{Placed}
use Rattle.ff_plan_layout.specs.Layout.{IsAmong, place_row, place_from}
use Rattle.ff_plan_layout.proofs.Among.{all_joined, among_either}

-- the numbers of a stream of an output
pub row_length : (number output stream : ℕ) (ss : List OutStream) → length (place_row number output stream ss) ≡ length ss
row_length number output stream [] = refl
row_length number output stream (s ∷ ss) = ap suc (row_length (number + 1) output (stream + 1) ss)

row_in : (number output stream : ℕ) (ss : List OutStream) (p : Placed) → IsAmong p (place_row number output stream ss) → (p.number < number + length ss) × (p.output ≡ output)
row_in number output stream [] p i = absurd i
row_in number output stream (s ∷ ss) p (inl e) = (let n : number ≡ p.number = ap (λ (p : Placed). p.number) e in (omega (arith, n), sym (ap (λ (p : Placed). p.output) e)))
row_in number output stream (s ∷ ss) p (inr i) = (let r = row_in (number + 1) output (stream + 1) ss p i in let lt = r.0 in (omega (arith, lt), r.1))

-- what holds of each stream of outputs holds of it in its place
row_holds : (T : OutStream → Type 0) (n o k : ℕ) (ss : List OutStream) → AllByRecursion T ss → AllByRecursion (λ p. T p.what) (place_row n o k ss)
row_holds T n o k [] all = tt
row_holds T n o k (s ∷ ss) all = (all.0, row_holds T (n + 1) o (k + 1) ss all.1)

pub place_holds : (T : OutStream → Type 0) (n o : ℕ) (rows : List (List OutStream)) → AllByRecursion (λ row. AllByRecursion T row) rows → AllByRecursion (λ p. T p.what) (place_from n o rows)
place_holds T n o [] all = tt
place_holds T n o (row ∷ rows) all = all_joined (λ p. T p.what) (place_row n o 0 row) (place_from (n + length row) (o + 1) rows) (row_holds T n o 0 row all.0) (place_holds T (n + length row) (o + 1) rows all.1)

pub joined_length : {A : Type 0} (xs ys : List A) → length (xs ++ ys) ≡ length xs + length ys
joined_length [] ys = omega arith
joined_length (x ∷ xs) ys = (let e = joined_length xs ys in omega (arith, e))

pub place_in : (number output : ℕ) (rows : List (List OutStream)) (p : Placed) → IsAmong p (place_from number output rows) → (p.number < number + length (place_from number output rows)) × (p.output < output + length rows)
place_in number output [] p i = absurd i
place_in number output (row ∷ rows) p i =
    let long = joined_length (place_row number output 0 row) (place_from (number + length row) (output + 1) rows) in
    let here = row_length number output 0 row in
    elim (among_either p (place_row number output 0 row) (place_from (number + length row) (output + 1) rows) i) [
      | inl j ↦ (let r = row_in number output 0 row p j in let lt = r.0 in let e = r.1 in (omega (arith, lt, long, here), omega (arith, e)))
      | inr j ↦ (let r = place_in (number + length row) (output + 1) rows p j in let lt = r.0 in let out = r.1 in (omega (arith, lt, long, here), omega (arith, out)))
    ]

pub map_length : {A B : Type 0} (f : A → B) (xs : List A) → length (map f xs) ≡ length xs
map_length f [] = refl
map_length f (x ∷ xs) = ap suc (map_length f xs)

pub range_length : (a n : ℕ) → length (range_with_len a n) ≡ n
range_length a zero = refl
range_length a (suc n) = ap suc (range_length (a + 1) n)

pub less_or : (k a : ℕ) → (k < a) ⊎ (a ≤ k)
less_or k zero = inr (omega arith)
less_or zero (suc a) = inl (omega arith)
less_or (suc k) (suc a) = elim (less_or k a) [ inl lt ↦ inl (omega (arith, lt)) | inr le ↦ inr (omega (arith, le)) ]
