-- The first bytes.
use Rattle.std.proofs.Common.{◌≡◌, ℕ, zero, suc, ◌+◌, ◌<◌, ◌≤◌, ◌⊎◌, inl, inr, Bool, true, false, List, [], ◌∷◌, ◌++◌, drop, length, Option, Some, None, refl, sym, ap, ◌∙◌, arith, get_or, min, lit<}
use Rattle.std.specs.Prelude.{nat_le, ◌==◌, ◌&&◌, All}
use Rattle.std.proofs.lemmas.List.{drop_all}
use Rattle.std.proofs.lemmas.List.Elements.{All-nil, All-cons}
use Rattle.std.proofs.lemmas.Bool.Decides.{nat_tests}
use Rattle.ff_reader.specs.Walks.{agrees, AreBytes}

pub bool_cases : (b : Bool) → (b ≡ true) ⊎ (b ≡ false)
bool_cases true = inl refl
bool_cases false = inr refl

and_false : (x y z : Bool) → (y ≡ false → z ≡ false) → (x && y) ≡ false → (x && z) ≡ false
and_false true y z h e = h e
and_false false y z h e = refl

and_true : (x y z : Bool) → (y ≡ true → z ≡ true) → (x && y) ≡ true → (x && z) ≡ true
and_true true y z h e = h e
and_true false y z h e = cc

-- ---- what follows

pub agrees-append : (ws : List (Option ℕ)) (bs more : List ℕ) → agrees ws bs ≡ false → agrees ws (bs ++ more) ≡ false
agrees-append [] bs more e = cc
agrees-append (w ∷ ws) [] more e = cc
agrees-append (Some n ∷ ws) (b ∷ bs) more e = and_false (b == n) (agrees ws bs) (agrees ws (bs ++ more)) (agrees-append ws bs more) e
agrees-append (None ∷ ws) (b ∷ bs) more e = agrees-append ws bs more e

pub agrees_long : (ws : List (Option ℕ)) (bs more : List ℕ) → length ws ≤ length bs → agrees ws (bs ++ more) ≡ agrees ws bs
agrees_long [] bs more le = refl
agrees_long (w ∷ ws) [] more le = absurd (omega arith)
agrees_long (Some n ∷ ws) (b ∷ bs) more le = ap (λ x. (b == n) && x) (agrees_long ws bs more (omega arith))
agrees_long (None ∷ ws) (b ∷ bs) more le = agrees_long ws bs more (omega arith)

-- ---- bytes that agree, with 0 where any byte does

pub filled : List (Option ℕ) → List ℕ
filled [] = []
filled (Some n ∷ ws) = n ∷ filled ws
filled (None ∷ ws) = 0 ∷ filled ws

agrees_filled : (ws : List (Option ℕ)) → agrees ws (filled ws) ≡ true
unfolding filled
agrees_filled [] = refl
agrees_filled (Some n ∷ ws) = let e : (n == n) ≡ true = grind (arith, nat_tests) in rw e (agrees_filled ws)
agrees_filled (None ∷ ws) = agrees_filled ws

pub agrees_complete : (ws : List (Option ℕ)) (bs : List ℕ) → agrees ws bs ≡ true → agrees ws (bs ++ drop (length bs) (filled ws)) ≡ true
unfolding filled
agrees_complete [] bs e = refl
agrees_complete (w ∷ ws) [] e = agrees_filled (w ∷ ws)
agrees_complete (Some n ∷ ws) (b ∷ bs) e = and_true (b == n) (agrees ws bs) (agrees ws (bs ++ drop (length bs) (filled ws))) (agrees_complete ws bs) e
agrees_complete (None ∷ ws) (b ∷ bs) e = agrees_complete ws bs e

pub filled_bytes : (ws : List (Option ℕ)) → AreBytes ws → All (λ b. b < 256) (filled ws)
unfolding filled
filled_bytes [] h = All-nil (λ b. b < 256)
filled_bytes (Some n ∷ ws) h = All-cons (λ b. b < 256) n (filled ws) h.0 (filled_bytes ws h.1)
filled_bytes (None ∷ ws) h = All-cons (λ b. b < 256) 0 (filled ws) (lit< tt) (filled_bytes ws h)

pub length_filled : (ws : List (Option ℕ)) → length (filled ws) ≡ length ws
unfolding filled
length_filled [] = refl
length_filled (Some n ∷ ws) = ap suc (length_filled ws)
length_filled (None ∷ ws) = ap suc (length_filled ws)

-- ---- byte by byte

and_assoc_true : (x y : Bool) → (x && y) ≡ ((x && true) && y)
and_assoc_true true y = refl
and_assoc_true false y = refl

-- one byte more of the first bytes
agrees_step : (ws : List (Option ℕ)) (bs : List ℕ) (i : ℕ) (d : Option ℕ) → i < length ws → i < length bs
    → agrees (drop i ws) (drop i bs) ≡ (agrees (get_or ws i d ∷ []) (get_or bs i 0 ∷ []) && agrees (drop (suc i) ws) (drop (suc i) bs))
agrees_step [] bs i d lt le = absurd (omega arith)
agrees_step (w ∷ ws) [] i d lt le = absurd (omega arith)
agrees_step (Some n ∷ ws) (b ∷ bs) zero d lt le = and_assoc_true (b == n) (agrees ws bs)
agrees_step (None ∷ ws) (b ∷ bs) zero d lt le = refl
agrees_step (w ∷ ws) (b ∷ bs) (suc i) d lt le = agrees_step ws bs i d (omega arith) (omega arith)

agrees_nil : (ws : List (Option ℕ)) → agrees ws [] ≡ true
agrees_nil [] = refl
agrees_nil (w ∷ ws) = refl

-- all that can be compared was
agrees_end : (ws : List (Option ℕ)) (bs : List ℕ) (i : ℕ) → (length ws ≤ i) ⊎ (length bs ≤ i) → agrees (drop i ws) (drop i bs) ≡ true
agrees_end ws bs i (inl le) = ap (λ x. agrees x (drop i bs)) (drop_all i ws le)
agrees_end ws bs i (inr le) = ap (λ x. agrees (drop i ws) x) (drop_all i bs le) ∙ agrees_nil (drop i ws)

min_end : (ws : List (Option ℕ)) (bs : List ℕ) (i : ℕ) → min (length bs) (length ws) ≤ i → (length ws ≤ i) ⊎ (length bs ≤ i)
min_end ws bs i le = elim (bool_cases (nat_le (length ws) i)) [
  | inl a ↦ inl (grind (arith, nat_tests))
  | inr a ↦ inr (grind (arith, nat_tests))
]

pub more_agrees : (ws : List (Option ℕ)) (bs : List ℕ) (i : ℕ) (d : Option ℕ) → i < length ws → i < length bs → agrees (get_or ws i d ∷ []) (get_or bs i 0 ∷ []) ≡ true
    → agrees (drop i ws) (drop i bs) ≡ agrees ws bs → agrees (drop (i + 1) ws) (drop (i + 1) bs) ≡ agrees ws bs
more_agrees ws bs i d lt le one h =
    let k : i + 1 ≡ suc i = omega arith in
    rw k (sym (agrees_step ws bs i d lt le ∙ ap (λ b. b && agrees (drop (suc i) ws) (drop (suc i) bs)) one) ∙ h)

pub less_agrees : (ws : List (Option ℕ)) (bs : List ℕ) (i : ℕ) (d : Option ℕ) → i < length ws → i < length bs → agrees (get_or ws i d ∷ []) (get_or bs i 0 ∷ []) ≡ false
    → agrees (drop i ws) (drop i bs) ≡ agrees ws bs → false ≡ agrees ws bs
less_agrees ws bs i d lt le one h = sym (agrees_step ws bs i d lt le ∙ ap (λ b. b && agrees (drop (suc i) ws) (drop (suc i) bs)) one) ∙ h

pub all_agrees : (ws : List (Option ℕ)) (bs : List ℕ) (i : ℕ) → min (length bs) (length ws) ≤ i → agrees (drop i ws) (drop i bs) ≡ agrees ws bs → true ≡ agrees ws bs
all_agrees ws bs i le h = sym (agrees_end ws bs i (min_end ws bs i le)) ∙ h
