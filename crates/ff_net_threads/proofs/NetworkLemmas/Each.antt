-- Numbers, and what holds of the elements of lists by number.
use Rattle.std.proofs.Common.{inl, inr, ◌⊎◌, ◌≡◌, ℕ, zero, suc, ◌+◌, ◌<◌, List, [], ◌∷◌, ◌++◌, length, get_or, refl, sym, ap, ◌∙◌, subst, arith}
use Rattle.ff_net.specs.Pasts.{IsIn}

lt_or_same : (j k : ℕ) → j < k + 1 → (j < k) ⊎ (j ≡ k)
lt_or_same zero zero lt = inr refl
lt_or_same zero (suc k) lt = inl (omega arith)
lt_or_same (suc j) zero lt = absurd (omega (arith, lt))
lt_or_same (suc j) (suc k) lt = elim (lt_or_same j k (omega (arith, lt))) [ inl l ↦ inl (omega (arith, l)) | inr e ↦ inr (ap suc e) ]

-- what holds below a number, and at it, holds below the next
pub each_next : (P : ℕ → Type 0) (k : ℕ) → ((j : ℕ) → j < k → P j) → P k → (j : ℕ) → j < k + 1 → P j
each_next P k before here j lt = elim (lt_or_same j k lt) [ inl l ↦ before j l | inr e ↦ subst P (sym e) here ]

pub at_before : {A : Type 0} (xs : List A) (y d : A) (k : ℕ) → k < length xs → get_or (xs ++ y ∷ []) k d ≡ get_or xs k d
at_before [] y d k lt = absurd (omega (arith, lt))
at_before (x ∷ xs) y d zero lt = refl
at_before (x ∷ xs) y d (suc k) lt = at_before xs y d k (omega (arith, lt))

pub at_end : {A : Type 0} (xs : List A) (y d : A) → get_or (xs ++ y ∷ []) (length xs) d ≡ y
at_end [] y d = refl
at_end (x ∷ xs) y d = at_end xs y d

-- what holds of the elements of two lists by number, and of one element more of each
pub two_pushed : {A B : Type 0} (P : ℕ → A → B → Type 0) (xs xs' : List A) (x : A) (ys ys' : List B) (y : B) (n : ℕ) → xs' ≡ xs ++ x ∷ [] → ys' ≡ ys ++ y ∷ [] → length xs ≡ n → length ys ≡ n
    → ((k : ℕ) (d : A) (e : B) → k < n → P k (get_or xs k d) (get_or ys k e)) → P n x y → (k : ℕ) (d : A) (e : B) → k < n + 1 → P k (get_or xs' k d) (get_or ys' k e)
two_pushed P xs xs' x ys ys' y n ex ey lx ly h here k d e lt =
    each_next (λ j. P j (get_or xs' j d) (get_or ys' j e)) n
    (λ j l.
    let a : get_or xs' j d ≡ get_or xs j d = ap (λ zs. get_or zs j d) ex ∙ at_before xs x d j (omega (arith, l, lx)) in
    let b : get_or ys' j e ≡ get_or ys j e = ap (λ zs. get_or zs j e) ey ∙ at_before ys y e j (omega (arith, l, ly)) in
    subst (λ v. P j v (get_or ys' j e)) (sym a) (subst (λ v. P j (get_or xs j d) v) (sym b) (h j d e l)))
    (let a : get_or xs' n d ≡ x = ap (λ zs. get_or zs n d) ex ∙ (ap (λ (m : ℕ). get_or (xs ++ x ∷ []) m d) (sym lx) ∙ at_end xs x d) in
    let b : get_or ys' n e ≡ y = ap (λ zs. get_or zs n e) ey ∙ (ap (λ (m : ℕ). get_or (ys ++ y ∷ []) m e) (sym ly) ∙ at_end ys y e) in
    subst (λ v. P n v (get_or ys' n e)) (sym a) (subst (λ v. P n x v) (sym b) here))
    k lt

-- the same of one list, with a default
pub one_pushed : {A : Type 0} (P : ℕ → A → Type 0) (xs xs' : List A) (x d : A) (n : ℕ) → xs' ≡ xs ++ x ∷ [] → length xs ≡ n → ((k : ℕ) → k < n → P k (get_or xs k d)) → P n x → (k : ℕ) → k < n + 1 → P k (get_or xs' k d)
one_pushed P xs xs' x d n e l h here k lt =
    each_next (λ j. P j (get_or xs' j d)) n
    (λ j below.
    let a : get_or xs' j d ≡ get_or xs j d = ap (λ zs. get_or zs j d) e ∙ at_before xs x d j (omega (arith, below, l)) in
    subst (λ v. P j v) (sym a) (h j below))
    (let a : get_or xs' n d ≡ x = ap (λ zs. get_or zs n d) e ∙ (ap (λ (m : ℕ). get_or (xs ++ x ∷ []) m d) (sym l) ∙ at_end xs x d) in
    subst (λ v. P n v) (sym a) here)
    k lt

-- a number that is there
pub nth_in : (xs : List ℕ) (k d : ℕ) → k < length xs → IsIn (get_or xs k d) xs
nth_in [] k d lt = absurd (omega (arith, lt))
nth_in (x ∷ xs) zero d lt = inl refl
nth_in (x ∷ xs) (suc k) d lt = inr (nth_in xs k d (omega (arith, lt)))

-- an element that is there
pub some_one : {A : Type 0} (xs : List A) (k : ℕ) → k < length xs → A
some_one [] k lt = absurd (omega (arith, lt))
some_one (x ∷ xs) zero lt = x
some_one (x ∷ xs) (suc k) lt = some_one xs k (omega (arith, lt))
