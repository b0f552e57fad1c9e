-- A cut by number, by how many frames there are.
use Rattle.std.proofs.Common.{◌≡◌, ℕ, zero, suc, ◌<◌, ◌≤◌, Bool, true, cond, Some, List, [], ◌∷◌, ◌++◌, length, take, refl, ap, ◌∙◌, subst, arith}
use Rattle.std.specs.Prelude.{nat_le}
use Rattle.std.proofs.lemmas.Bool.{le-leb, lt-leb}
use Rattle.std.proofs.lemmas.List.{length-append}
use Rattle.ff_stream.specs.declared.item.Item.{Item}
use Rattle.ff_stream.specs.Stream.{Mark, whole, whole_stream}
use Rattle.ff_filter.specs.Joins.{Flow}
use Rattle.ff_trim.specs.Cuts.{counted}

taken_there : (xs ys : List Item) → take (length xs) (xs ++ ys) ≡ xs
taken_there [] ys = refl
taken_there (x ∷ xs) ys = ap (λ (zs : List Item). x ∷ zs) (taken_there xs ys)

reached : (xs ys : List Item) → nat_le (length xs) (length (xs ++ ys)) ≡ true
reached xs ys = let e = length-append xs ys in le-leb (length xs) (length (xs ++ ys)) (omega (arith, e))

pub so_many : (n : ℕ) (xs ys : List Item) (m : Mark) → length xs ≡ n → counted (Some n) (record { items = xs ++ ys; mark = m }) ≡ whole_stream xs
so_many n xs ys m e =
    subst (λ (k : ℕ). counted (Some k) (record { items = xs ++ ys; mark = m }) ≡ whole_stream xs) e
    (ap (λ (zs : List Item). let s : Flow = record { items = zs; mark = cond (nat_le (length xs) (length (xs ++ ys))) whole m } in s) (taken_there xs ys)
    ∙ ap (λ (b : Bool). let s : Flow = record { items = xs; mark = cond b whole m } in s) (reached xs ys))

all_taken : (n : ℕ) (xs : List Item) → length xs ≤ n → take n xs ≡ xs
all_taken zero [] le = refl
all_taken zero (x ∷ xs) le = absurd (omega (arith, le))
all_taken (suc n) [] le = refl
all_taken (suc n) (x ∷ xs) le = ap (λ (ys : List Item). x ∷ ys) (all_taken n xs (omega (arith, le)))

pub fewer_than : (n : ℕ) (xs : List Item) (m : Mark) → length xs < n → counted (Some n) (record { items = xs; mark = m }) ≡ record { items = xs; mark = m }
fewer_than n xs m lt =
    ap (λ (zs : List Item). let s : Flow = record { items = zs; mark = cond (nat_le n (length xs)) whole m } in s) (all_taken n xs (omega (arith, lt)))
    ∙ ap (λ (b : Bool). let s : Flow = record { items = xs; mark = cond b whole m } in s) (lt-leb n (length xs) lt)
