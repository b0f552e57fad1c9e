-- Reads of a source of which some bytes were read already.
use Rattle.std.proofs.Common.{◌≡◌, ℕ, zero, suc, ◌∷◌, refl, ◌+◌, ◌-◌, min, List, [], ◌++◌, take, drop, length, Option, Some, None, Result, sym, ap, subst, ◌∙◌, append_assoc, arith}
use Rattle.std.proofs.lemmas.List.{take-append-drop, take-append-le, length-take, length-drop, take_all}
use Rattle.std.specs.Io.KnownBytes.{prepend_known, Consumes, ReadConsumes}

prepend_none : (known : Option (List ℕ)) → prepend_known [] known ≡ known
prepend_none None = refl
prepend_none (Some xs) = refl

-- with none of these bytes left, a read is that of the source itself
pub reads_on : {E : Type 0} (gone : List ℕ) (old new : Option (List ℕ)) (r : Result ℕ E) (buf : List ℕ) → gone ≡ [] → ReadConsumes old new r buf
    → ReadConsumes (prepend_known gone old) (prepend_known gone new) r buf
reads_on gone old new r buf e h = rw (e, prepend_none old, prepend_none new) h

taken : (known : Option (List ℕ)) (waiting piece rest : List ℕ) → waiting ≡ piece ++ rest → Consumes (prepend_known waiting known) (prepend_known rest known) piece
taken None waiting piece rest e = tt
taken (Some xs) waiting piece rest e = ap (λ (ys : List ℕ). ys ++ xs) e ∙ append_assoc piece rest xs

drop_nil : (k : ℕ) → drop {A = ℕ} k [] ≡ []
drop_nil zero = refl
drop_nil (suc k) = refl

drop_more : (i n : ℕ) (xs : List ℕ) → drop (i + n) xs ≡ drop n (drop i xs)
drop_more zero n xs = let e : 0 + n ≡ n = omega arith in rw e refl
drop_more (suc i) n [] = let e : suc i + n ≡ suc (i + n) = omega arith in rw (e, drop_nil n) refl
drop_more (suc i) n (x ∷ xs) = let e : suc i + n ≡ suc (i + n) = omega arith in rw e (drop_more i n xs)

-- a slice from a place on
pub from_on : (at : ℕ) (bytes slice : List ℕ) → slice ≡ bytes → take (length slice - at) (drop at slice) ≡ drop at bytes
from_on at bytes slice e = subst (λ (xs : List ℕ). take (length xs - at) (drop at xs) ≡ drop at bytes) (sym e) (take_all (length bytes - at) (drop at bytes) (omega (arith, length-drop at bytes)))

-- the front of these bytes was copied into the front of the buffer
pub gives_front : (known : Option (List ℕ)) (bytes : List ℕ) (at n : ℕ) (old new : List ℕ) → n ≡ min (length old) (length (drop at bytes)) → new ≡ take n (drop at bytes) ++ drop n old
    → Consumes (prepend_known (drop at bytes) known) (prepend_known (drop (at + n) bytes) known) (take n new)
gives_front known bytes at n old new count given =
    let xs = drop at bytes in
    let size : length (take n xs) ≡ n = omega (arith, length-take n xs, count) in
    let front : take n new ≡ take n xs = ap (take n) given ∙ (take-append-le n (take n xs) (drop n old) (omega (arith, size)) ∙ take_again n xs) in
    let parts : xs ≡ take n new ++ drop (at + n) bytes = sym (take-append-drop n xs) ∙ rw (front, drop_more at n bytes) refl in
    taken known xs (take n new) (drop (at + n) bytes) parts
  where
    take_again : (k : ℕ) (ys : List ℕ) → take k (take k ys) ≡ take k ys
    take_again zero ys = refl
    take_again (suc k) [] = refl
    take_again (suc k) (y ∷ ys) = ap (λ (zs : List ℕ). y ∷ zs) (take_again k ys)
