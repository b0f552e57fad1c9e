-- What taking one more leaves, and where none can be taken next, there is no order.
use Rattle.std.proofs.Common.{◌≡◌, ◌≢◌, ℕ, zero, suc, ◌<◌, ◌==◌, ◌&&◌, not, Bool, true, false, List, [], ◌∷◌, length, replicate, slice_index_or, slice_set, refl, ap, sym, ◌∙◌, subst, ◌⊎◌, inl, inr, arith}
use Rattle.std.proofs.lemmas.Bool.Decides.{nat_tests}
use Rattle.std.proofs.lemmas.List.{get_or-set_other, length-map}
use Rattle.std.specs.declared.vec.Vec.{Vec}
use Rattle.ff_graph_links.specs.orders.Orders.{lists, is_taken, are_taken, all_taken, left, is_ready, IsOrderFrom}

both : (a b : Bool) → (a && b) ≡ true → (a ≡ true) × (b ≡ true)
both true b e = (refl, e)
both false b e = cc

and_both : (a b : Bool) → a ≡ true → b ≡ true → (a && b) ≡ true
and_both true b e f = f
and_both false b e f = cc

not_true : (a : Bool) → not a ≡ true → a ≡ false
not_true true e = cc
not_true false e = refl

true_not : (a : Bool) → a ≡ false → not a ≡ true
true_not true e = cc
true_not false e = refl

pub taken_at : (taken : List Bool) (k : ℕ) → k < length taken → all_taken taken ≡ true → is_taken taken k ≡ true
taken_at [] k lt e = absurd (omega arith)
taken_at (b ∷ bs) zero lt e = (both b (all_taken bs) e).0
taken_at (b ∷ bs) (suc k) lt e = taken_at bs k (omega arith) (both b (all_taken bs) e).1

taken_all : (taken : List Bool) → ((k : ℕ) → k < length taken → is_taken taken k ≡ true) → all_taken taken ≡ true
taken_all [] h = refl
taken_all (b ∷ bs) h = and_both b (all_taken bs) (h zero (omega arith)) (taken_all bs (λ k lt. h (suc k) (omega arith)))

are_below : (flags taken : List Bool) → ((j : ℕ) → is_taken flags j ≡ true → is_taken taken j ≡ true) → (js : List ℕ) → are_taken flags js ≡ true → are_taken taken js ≡ true
are_below flags taken below [] e = refl
are_below flags taken below (j ∷ js) e =
    let h = both (is_taken flags j) (are_taken flags js) e in
    and_both (is_taken taken j) (are_taken taken js) (below j h.0) (are_below flags taken below js h.1)

pub size_set : (bs : List Bool) (k : ℕ) (b : Bool) → length (slice_set bs k b) ≡ length bs
size_set [] k b = refl
size_set (c ∷ bs) zero b = refl
size_set (c ∷ bs) (suc k) b = ap (λ (n : ℕ). suc n) (size_set bs k b)

-- one more is taken
pub left_falls : (bs : List Bool) (k : ℕ) → k < length bs → is_taken bs k ≡ false → suc (left (slice_set bs k true)) ≡ left bs
left_falls [] k lt e = absurd (omega arith)
left_falls (true ∷ bs) zero lt e = cc
left_falls (false ∷ bs) zero lt e = refl
left_falls (true ∷ bs) (suc k) lt e = left_falls bs k (omega arith) e
left_falls (false ∷ bs) (suc k) lt e = ap (λ (n : ℕ). suc n) (left_falls bs k (omega arith) e)

taken_or_not : (b : Bool) → (b ≡ true) ⊎ (b ≡ false)
taken_or_not true = inl refl
taken_or_not false = inr refl

-- what was taken stays taken with one more that was taken there too
pub more_below : (flags taken : List Bool) (k : ℕ) → k < length flags → ((j : ℕ) → is_taken flags j ≡ true → is_taken taken j ≡ true) → is_taken taken k ≡ true
    → (j : ℕ) → is_taken (slice_set flags k true) j ≡ true → is_taken taken j ≡ true
more_below flags taken k lt below here j e = at (j == k) refl
  where
    at : (b : Bool) → (j == k) ≡ b → is_taken taken j ≡ true
    at true q =
        let is : k ≡ j = grind (arith, nat_tests) in
        subst (λ (i : ℕ). is_taken taken i ≡ true) is here
    at false q =
        let other : j ≢ k = grind (arith, nat_tests) in
        below j (sym (get_or-set_other flags k j true false other) ∙ e)

-- Where none can be taken next though one wasn't taken, no order goes on from less.
pub stuck : (feeders : List (List ℕ)) (taken : List Bool) → ((j : ℕ) → j < length taken → is_ready feeders taken j ≡ false) → all_taken taken ≡ false
    → (flags : List Bool) → length flags ≡ length taken → ((j : ℕ) → is_taken flags j ≡ true → is_taken taken j ≡ true) → (ks : List ℕ) → IsOrderFrom feeders flags ks → ⊥
stuck feeders taken none some flags same below [] h =
    let all : all_taken taken ≡ true = taken_all taken (λ k lt. below k (taken_at flags k (omega arith) h)) in
    let clash : true ≡ false = sym all ∙ some in cc
stuck feeders taken none some flags same below (k ∷ ks) h =
    at (taken_or_not (is_taken taken k)) (λ e. stuck feeders taken none some (slice_set flags k true) (size_set flags k true ∙ same) (more_below flags taken k h.0 below e) ks h.2)
  where
    at : (is_taken taken k ≡ true) ⊎ (is_taken taken k ≡ false) → (is_taken taken k ≡ true → ⊥) → ⊥
    at (inl e) on = on e
    at (inr e) on =
        let fed = (both (not (is_taken flags k)) (are_taken flags (slice_index_or feeders k [])) h.1).1 in
        let ready : is_ready feeders taken k ≡ true =
        and_both (not (is_taken taken k)) (are_taken taken (slice_index_or feeders k [])) (true_not (is_taken taken k) e) (are_below flags taken below (slice_index_or feeders k []) fed) in
        let clash : true ≡ false = sym ready ∙ none k (subst (λ (n : ℕ). k < n) same h.0) in cc

pub none_yet : (n j : ℕ) → is_taken (replicate n false) j ≡ false
none_yet zero j = refl
none_yet (suc n) zero = refl
none_yet (suc n) (suc j) = none_yet n j

pub unready : (feeders : List (List ℕ)) (taken : List Bool) (k : ℕ) → is_ready feeders taken k ≡ true → is_taken taken k ≡ false
unready feeders taken k e = not_true (is_taken taken k) (both (not (is_taken taken k)) (are_taken taken (slice_index_or feeders k [])) e).0

pub lists_size : {A : Type 0} (vs : List (Vec ℕ A)) → length (lists vs) ≡ length vs
lists_size vs = length-map vs (λ v. v.items)
