-- Counts and lanes of edges, one more.
use Rattle.std.proofs.Common.{◌≡◌, ℕ, zero, suc, ◌+◌, ◌<◌, ◌≤◌, ◌==◌, Bool, true, false, cond, List, [], ◌∷◌, ◌++◌, length, take, get_or, Option, Some, None, refl, sym, ap, ◌∙◌, append-nil, add-one, arith}
use Rattle.std.specs.List.{filter_map, cons_option}
use Rattle.std.proofs.lemmas.Bool.Decides.{nat_tests}
use Rattle.std.proofs.lemmas.List.Elements.{filter_map-append}
use Rattle.ff_stream.specs.declared.item.Lane.{Lane}
use Rattle.ff_stream.specs.declared.edges.edge.Edge.{Edge}
use Rattle.ff_stream.specs.edges.Ports.{tally}
use Rattle.ff_stream.specs.edges.Ports.{lane_of}

pub same_yes : (a b : ℕ) → a ≡ b → (a == b) ≡ true
same_yes a b e = grind (arith, nat_tests)

pub same_no : (a b : ℕ) → (a ≡ b → ⊥) → (a == b) ≡ false
same_no a b n = grind (arith, nat_tests)

-- one more, or not, twice
swap : (b c : Bool) (n : ℕ) → cond b (suc (cond c (suc n) n)) (cond c (suc n) n) ≡ cond c (suc (cond b (suc n) n)) (cond b (suc n) n)
swap true true n = refl
swap true false n = refl
swap false true n = refl
swap false false n = refl

tally_up : {X : Type 0} (p : X → Bool) (xs : List X) (k : ℕ) (d : X) → k < length xs → tally p (take (suc k) xs) ≡ cond (p (get_or xs k d)) (suc (tally p (take k xs))) (tally p (take k xs))
tally_up p [] k d lt = absurd (omega (arith, lt))
tally_up p (x ∷ xs) zero d lt = refl
tally_up p (x ∷ xs) (suc k) d lt = ap (λ (n : ℕ). cond (p x) (suc n) n) (tally_up p xs k d (omega (arith, lt))) ∙ swap (p x) (p (get_or xs k d)) (tally p (take k xs))

pub tally_yes : {X : Type 0} (p : X → Bool) (xs : List X) (k : ℕ) (d : X) → k < length xs → p (get_or xs k d) ≡ true → tally p (take (k + 1) xs) ≡ tally p (take k xs) + 1
tally_yes p xs k d lt e =
    ap (λ (n : ℕ). tally p (take n xs)) (add-one k) ∙ (tally_up p xs k d lt ∙ (ap (λ (b : Bool). cond b (suc (tally p (take k xs))) (tally p (take k xs))) e ∙ sym (add-one (tally p (take k xs)))))

pub tally_no : {X : Type 0} (p : X → Bool) (xs : List X) (k : ℕ) (d : X) → k < length xs → p (get_or xs k d) ≡ false → tally p (take (k + 1) xs) ≡ tally p (take k xs)
tally_no p xs k d lt e = ap (λ (n : ℕ). tally p (take n xs)) (add-one k) ∙ (tally_up p xs k d lt ∙ ap (λ (b : Bool). cond b (suc (tally p (take k xs))) (tally p (take k xs))) e)

pub take_all : {X : Type 0} (xs : List X) (k : ℕ) → length xs ≤ k → take k xs ≡ xs
take_all [] zero le = refl
take_all [] (suc k) le = refl
take_all (x ∷ xs) zero le = absurd (omega (arith, le))
take_all {X} (x ∷ xs) (suc k) le = ap (λ (ys : List X). x ∷ ys) (take_all xs k (omega (arith, le)))

take_up : {X : Type 0} (xs : List X) (k : ℕ) (d : X) → k < length xs → take (suc k) xs ≡ take k xs ++ get_or xs k d ∷ []
take_up [] k d lt = absurd (omega (arith, lt))
take_up (x ∷ xs) zero d lt = refl
take_up {X} (x ∷ xs) (suc k) d lt = ap (λ (ys : List X). x ∷ ys) (take_up xs k d (omega (arith, lt)))

take_more : {X : Type 0} (xs : List X) (k : ℕ) (d : X) → k < length xs → take (k + 1) xs ≡ take k xs ++ get_or xs k d ∷ []
take_more {X} xs k d lt = ap (λ (n : ℕ). take n xs) (add-one k) ∙ take_up xs k d lt

at_edge : (edges : List Edge) (w : ℕ) (d : Edge) → w < length edges → lane_of edges w ≡ Some (get_or edges w d).lane
at_edge [] w d lt = absurd (omega (arith, lt))
at_edge (e ∷ es) zero d lt = refl
at_edge (e ∷ es) (suc w) d lt = at_edge es w d (omega (arith, lt))

no_edge : (edges : List Edge) (w : ℕ) → length edges ≤ w → lane_of edges w ≡ None
no_edge [] w le = refl
no_edge (e ∷ es) zero le = absurd (omega (arith, le))
no_edge (e ∷ es) (suc w) le = no_edge es w (omega (arith, le))

-- one more of what is there at some numbers
module _ {A : Type 0} (f : ℕ → Option A) (numbers : List ℕ) (k : ℕ) (lt : k < length numbers) where
  one_more : filter_map f (take (k + 1) numbers) ≡ filter_map f (take k numbers) ++ cons_option (f (get_or numbers k 0)) []
  one_more = ap (filter_map f) (take_more numbers k 0 lt) ∙ filter_map-append f (take k numbers) (get_or numbers k 0 ∷ [])

  pub one_kept : (x : A) (xs : List A) → f (get_or numbers k 0) ≡ Some x → xs ≡ filter_map f (take k numbers) → xs ++ x ∷ [] ≡ filter_map f (take (k + 1) numbers)
  one_kept x xs e h =
      ap (λ (ys : List A). ys ++ x ∷ []) h ∙ (ap (λ (o : Option A). filter_map f (take k numbers) ++ cons_option o []) (sym e) ∙ sym one_more)

  pub one_passed : (xs : List A) → f (get_or numbers k 0) ≡ None → xs ≡ filter_map f (take k numbers) → xs ≡ filter_map f (take (k + 1) numbers)
  one_passed xs e h =
      h ∙ (sym (append-nil (filter_map f (take k numbers))) ∙ (ap (λ (o : Option A). filter_map f (take k numbers) ++ cons_option o []) (sym e) ∙ sym one_more))

module _ (edges : List Edge) (numbers : List ℕ) (k : ℕ) (lt : k < length numbers) where
  pub lane_more : (w : ℕ) (d : Edge) (lanes : List Lane) → w ≡ get_or numbers k 0 → w < length edges → lanes ≡ filter_map (lane_of edges) (take k numbers)
      → lanes ++ (get_or edges w d).lane ∷ [] ≡ filter_map (lane_of edges) (take (k + 1) numbers)
  lane_more w d lanes e there h = one_kept (lane_of edges) numbers k lt (get_or edges w d).lane lanes (sym (ap (lane_of edges) e) ∙ at_edge edges w d there) h

  pub lane_passed : (w : ℕ) (lanes : List Lane) → w ≡ get_or numbers k 0 → length edges ≤ w → lanes ≡ filter_map (lane_of edges) (take k numbers) → lanes ≡ filter_map (lane_of edges) (take (k + 1) numbers)
  lane_passed w lanes e there h = one_passed (lane_of edges) numbers k lt lanes (sym (ap (lane_of edges) e) ∙ no_edge edges w there) h
