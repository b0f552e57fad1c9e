-- The lowest that is ready, and the order that takes it again and again.
use Rattle.std.proofs.Common.{◌≡◌, ◌⊎◌, inl, inr, ℕ, zero, suc, ◌+◌, ◌<◌, ◌≤◌, ◌&&◌, not, Bool, true, false, List, [], ◌∷◌, ◌++◌, length}
use Rattle.std.proofs.Common.{Option, None, Some, if◌then◌else◌, replicate, slice_index_or, slice_set, refl, ap, sym, ◌∙◌, subst, append_assoc, arith}
use Rattle.std.proofs.lemmas.Bool.{cases_lt}
use Rattle.std.proofs.lemmas.Bool.Decides.{nat_tests}
use Rattle.std.proofs.lemmas.List.{append-nil}
use Rattle.std.specs.declared.vec.Vec.{Vec}
use Rattle.ff_graph_links.specs.orders.Orders.{lists, IsOrder, IsLowestOrder, is_taken, are_taken, all_taken, left, is_ready, IsOrderFrom, IsLowestFrom}
use Rattle.ff_graph_links.specs.orders.Orders.{first_ready, next_ready, order_on, order_from, order_of, loops}
use Rattle.ff_graph_links.proofs.OrdersLemmas.Stuck.{left_falls, unready, stuck, size_set, lists_size, taken_at}

either : (b : Bool) → (b ≡ true) ⊎ (b ≡ false)
either true = inl refl
either false = inr refl

-- ---- the lowest that is ready

none_first : (feeders : List (List ℕ)) (taken : List Bool) (k n : ℕ) → ((j : ℕ) → j < k + n → is_ready feeders taken j ≡ false) → first_ready feeders taken k n ≡ None
none_first feeders taken k zero h = refl
none_first feeders taken k (suc n) h =
    ap (λ (b : Bool). if b then Some k else first_ready feeders taken (suc k) n) (h k (omega arith)) ∙ none_first feeders taken (suc k) n (λ j lt. h j (omega arith))

one_first : (feeders : List (List ℕ)) (taken : List Bool) (k n i : ℕ) → k ≤ i → i < k + n → is_ready feeders taken i ≡ true
    → ((j : ℕ) → j < i → is_ready feeders taken j ≡ false) → first_ready feeders taken k n ≡ Some i
one_first feeders taken k zero i le lt ready lowest = absurd (omega arith)
one_first feeders taken k (suc n) i le lt ready lowest = at (cases_lt k i) (λ less. one_first feeders taken (suc k) n i less (omega arith) ready lowest)
  where
    at : (k < i) ⊎ (i ≤ k) → (k < i → first_ready feeders taken (suc k) n ≡ Some i) → first_ready feeders taken k (suc n) ≡ Some i
    at (inl less) on = ap (λ (b : Bool). if b then Some k else first_ready feeders taken (suc k) n) (lowest k less) ∙ on less
    at (inr more) on =
        let same : k ≡ i = omega arith in
        ap (λ (b : Bool). if b then Some k else first_ready feeders taken (suc k) n) (subst (λ (j : ℕ). is_ready feeders taken j ≡ true) (sym same) ready)
        ∙ ap (λ (j : ℕ). Some j) same

none_next : (feeders : List (List ℕ)) (taken : List Bool) → ((j : ℕ) → j < length taken → is_ready feeders taken j ≡ false) → next_ready feeders taken ≡ None
none_next feeders taken h = none_first feeders taken 0 (length taken) (λ j lt. h j (omega arith))

one_next : (feeders : List (List ℕ)) (taken : List Bool) (k : ℕ) → k < length taken → is_ready feeders taken k ≡ true → ((j : ℕ) → j < k → is_ready feeders taken j ≡ false)
    → next_ready feeders taken ≡ Some k
one_next feeders taken k lt ready lowest = one_first feeders taken 0 (length taken) k (omega arith) (omega arith) ready lowest

here_or_later : (feeders : List (List ℕ)) (taken : List Bool) (k j : ℕ) → k ≤ j → is_ready feeders taken k ≡ false → (k < j → is_ready feeders taken j ≡ false)
    → is_ready feeders taken j ≡ false
here_or_later feeders taken k j le here later = at (cases_lt k j)
  where
    at : (k < j) ⊎ (j ≤ k) → is_ready feeders taken j ≡ false
    at (inl less) = later less
    at (inr more) = (let same : k ≡ j = omega arith in subst (λ (i : ℕ). is_ready feeders taken i ≡ false) same here)

pub first_none : (feeders : List (List ℕ)) (taken : List Bool) (k n : ℕ) → first_ready feeders taken k n ≡ None → (j : ℕ) → k ≤ j → j < k + n → is_ready feeders taken j ≡ false
first_none feeders taken k zero e j le lt = absurd (omega arith)
first_none feeders taken k (suc n) e j le lt = at (is_ready feeders taken k) refl e (λ h less. first_none feeders taken (suc k) n h j less (omega arith))
  where
    at : (b : Bool) → is_ready feeders taken k ≡ b → (if b then Some k else first_ready feeders taken (suc k) n) ≡ None
        → (first_ready feeders taken (suc k) n ≡ None → k < j → is_ready feeders taken j ≡ false) → is_ready feeders taken j ≡ false
    at true q h on = absurd cc
    at false q h on = here_or_later feeders taken k j le q (on h)

-- what the lowest that is ready is
pub record Lowest (feeders : List (List ℕ)) (taken : List Bool) (k n i : ℕ) : Type 0 where
  pub from : k ≤ i
  pub there : i < k + n
  pub ready : is_ready feeders taken i ≡ true
  pub lowest : (j : ℕ) → k ≤ j → j < i → is_ready feeders taken j ≡ false

some_inner : (i j : ℕ) → Some i ≡ Some j → i ≡ j
some_inner i j e = cc

pub first_some : (feeders : List (List ℕ)) (taken : List Bool) (k n i : ℕ) → first_ready feeders taken k n ≡ Some i → Lowest feeders taken k n i
first_some feeders taken k zero i e = absurd cc
first_some feeders taken k (suc n) i e = at (is_ready feeders taken k) refl e (λ h. first_some feeders taken (suc k) n i h)
  where
    at : (b : Bool) → is_ready feeders taken k ≡ b → (if b then Some k else first_ready feeders taken (suc k) n) ≡ Some i
        → (first_ready feeders taken (suc k) n ≡ Some i → Lowest feeders taken (suc k) n i) → Lowest feeders taken k (suc n) i
    at true q h on =
        let same : k ≡ i = some_inner k i h in
        record {
          from = omega arith;
          there = omega arith;
          ready = subst (λ (j : ℕ). is_ready feeders taken j ≡ true) same q;
          lowest = λ j le lt. absurd (omega arith);
        }
    at false q h on =
        let more : Lowest feeders taken (suc k) n i = on h in
        let from = more.from in
        let there = more.there in
        record {
          from = omega (arith, from);
          there = omega (arith, there);
          ready = more.ready;
          lowest = λ j le lt. here_or_later feeders taken k j le q (λ less. more.lowest j less lt);
        }

-- ---- the order that goes on from there

taken_unready : (feeders : List (List ℕ)) (taken : List Bool) (j : ℕ) → is_taken taken j ≡ true → is_ready feeders taken j ≡ false
taken_unready feeders taken j e = ap (λ (b : Bool). not b && are_taken taken (slice_index_or feeders j [])) e

pub left_none : (n : ℕ) → left (replicate n false) ≡ n
left_none zero = refl
left_none (suc n) = ap (λ (m : ℕ). suc m) (left_none n)

left_all : (taken : List Bool) → all_taken taken ≡ true → left taken ≡ 0
left_all [] e = refl
left_all (true ∷ bs) e = left_all bs e
left_all (false ∷ bs) e = absurd cc

left_some : (taken : List Bool) → all_taken taken ≡ false → 0 < left taken
left_some [] e = absurd cc
left_some (true ∷ bs) e = left_some bs e
left_some (false ∷ bs) e = omega arith

left_zero : (taken : List Bool) → left taken ≡ 0 → all_taken taken ≡ true
left_zero taken e = at (either (all_taken taken))
  where
    at : (all_taken taken ≡ true) ⊎ (all_taken taken ≡ false) → all_taken taken ≡ true
    at (inl h) = h
    at (inr h) = (let lt = left_some taken h in absurd (omega (arith, lt, e)))

stays_taken : (taken : List Bool) (k : ℕ) → k < length taken → (j : ℕ) → is_taken taken j ≡ true → is_taken (slice_set taken k true) j ≡ true
stays_taken [] k lt j e = absurd (omega arith)
stays_taken (b ∷ bs) zero lt zero e = refl
stays_taken (b ∷ bs) zero lt (suc j) e = e
stays_taken (b ∷ bs) (suc k) lt zero e = e
stays_taken (b ∷ bs) (suc k) lt (suc j) e = stays_taken bs k (omega arith) j e

-- of what is fed so, with these taken
module _ (feeders : List (List ℕ)) where
  order_one : (taken : List Bool) (steps k : ℕ) → next_ready feeders taken ≡ Some k
      → order_from feeders taken (suc steps) ≡ k ∷ order_from feeders (slice_set taken k true) steps
  order_one taken steps k e = ap (λ (o : Option ℕ). order_on feeders taken (suc steps) o) e

  order_none : (taken : List Bool) (steps : ℕ) → next_ready feeders taken ≡ None → order_from feeders taken steps ≡ []
  order_none taken steps e = ap (λ (o : Option ℕ). order_on feeders taken steps o) e

  -- one more was taken
  pub more_taken : (start taken : List Bool) (n : ℕ) (front : List ℕ) (k : ℕ) → k < length taken → is_ready feeders taken k ≡ true
      → ((j : ℕ) → j < k → is_ready feeders taken j ≡ false) → order_from feeders start n ≡ front ++ order_from feeders taken (left taken)
      → order_from feeders start n ≡ (front ++ k ∷ []) ++ order_from feeders (slice_set taken k true) (left (slice_set taken k true))
  more_taken start taken n front k lt ready lowest e =
      let falls : suc (left (slice_set taken k true)) ≡ left taken = left_falls taken k lt (unready feeders taken k ready) in
      e ∙ ap (λ (m : ℕ). front ++ order_from feeders taken m) (sym falls)
      ∙ ap (λ (xs : List ℕ). front ++ xs) (order_one taken (left (slice_set taken k true)) k (one_next feeders taken k lt ready lowest))
      ∙ sym (append_assoc front (k ∷ []) (order_from feeders (slice_set taken k true) (left (slice_set taken k true))))

  -- none is ready any more
  pub ends_there : (start taken : List Bool) (n : ℕ) (front : List ℕ) → ((j : ℕ) → j < length taken → is_ready feeders taken j ≡ false)
      → order_from feeders start n ≡ front ++ order_from feeders taken (left taken) → order_from feeders start n ≡ front
  ends_there start taken n front none e =
      e ∙ ap (λ (xs : List ℕ). front ++ xs) (order_none taken (left taken) (none_next feeders taken none)) ∙ append-nil front

  -- the only answer
  lowest_from : (taken : List Bool) (n : ℕ) → left taken ≡ n → (ks : List ℕ) → IsLowestFrom feeders taken ks → order_from feeders taken n ≡ ks
  lowest_from taken n size [] h = order_none taken n (none_next feeders taken (λ j lt. taken_unready feeders taken j (taken_at taken j lt h)))
  lowest_from taken zero size (k ∷ ks) h =
      (let falls = left_falls taken k h.0 (unready feeders taken k h.1) in absurd (omega (arith, falls, size)))
  lowest_from taken (suc n) size (k ∷ ks) h =
      order_one taken n k (one_next feeders taken k h.0 h.1 h.2)
      ∙ ap (λ (xs : List ℕ). k ∷ xs)
      (lowest_from (slice_set taken k true) n (let falls = left_falls taken k h.0 (unready feeders taken k h.1) in omega (arith, falls, size)) ks h.3)

  -- as many as there are things: each of them was taken
  whole_on : (taken : List Bool) (n : ℕ) (o : Option ℕ) → next_ready feeders taken ≡ o → left taken ≡ n → length (order_on feeders taken n o) ≡ n
      → IsLowestFrom feeders taken (order_on feeders taken n o)
  whole_on taken n None e size long = left_zero taken (size ∙ sym long)
  whole_on taken zero (Some k) e size long = left_zero taken size
  whole_on taken (suc n) (Some k) e size long =
      let low : Lowest feeders taken 0 (length taken) k = first_some feeders taken 0 (length taken) k e in
      let there = low.there in
      let lt : k < length taken = omega (arith, there) in
      let falls = left_falls taken k lt (unready feeders taken k low.ready) in (
        lt,
        low.ready,
        (λ j less. low.lowest j (omega arith) less),
        whole_on (slice_set taken k true) n (next_ready feeders (slice_set taken k true)) refl (omega (arith, falls, size)) (omega (arith, long)),
      )

  -- too short: no order goes on from less
  short_on : (taken : List Bool) (n : ℕ) (o : Option ℕ) → next_ready feeders taken ≡ o → left taken ≡ n → length (order_on feeders taken n o) < n
      → (flags : List Bool) → length flags ≡ length taken
      → ((j : ℕ) → is_taken flags j ≡ true → is_taken taken j ≡ true) → (ks : List ℕ) → IsOrderFrom feeders flags ks → ⊥
  short_on taken n None e size short flags same below ks h = none (either (all_taken taken))
    where
      none : (all_taken taken ≡ true) ⊎ (all_taken taken ≡ false) → ⊥
      none (inl all) = (let zero_left = left_all taken all in absurd (omega (arith, zero_left, size, short)))
      none (inr some) = stuck feeders taken (λ j lt. first_none feeders taken 0 (length taken) e j (omega arith) (omega arith)) some flags same below ks h
  short_on taken zero (Some k) e size short flags same below ks h = absurd (omega (arith, short))
  short_on taken (suc n) (Some k) e size short flags same below ks h =
      let low : Lowest feeders taken 0 (length taken) k = first_some feeders taken 0 (length taken) k e in
      let there = low.there in
      let lt : k < length taken = omega (arith, there) in
      let falls = left_falls taken k lt (unready feeders taken k low.ready) in
      short_on (slice_set taken k true) n (next_ready feeders (slice_set taken k true)) refl (omega (arith, falls, size)) (omega (arith, short)) flags
      (same ∙ sym (size_set taken k true)) (λ j q. stays_taken taken k lt j (below j q)) ks h

  at_most : (taken : List Bool) (n : ℕ) (o : Option ℕ) → length (order_on feeders taken n o) ≤ n
  at_most taken n None = omega arith
  at_most taken zero (Some k) = omega arith
  at_most taken (suc n) (Some k) = (let h = at_most (slice_set taken k true) n (next_ready feeders (slice_set taken k true)) in omega (arith, h))

pub one_answer : (feeders : List (List ℕ)) (ks : List ℕ) → IsLowestOrder feeders ks → order_of feeders ≡ ks
one_answer feeders ks h = lowest_from feeders (replicate (length feeders) false) (length feeders) (left_none (length feeders)) ks h

pub is_lowest : (feeders : List (List ℕ)) → loops feeders ≡ false → IsLowestOrder feeders (order_of feeders)
is_lowest feeders e =
    let most = at_most feeders (replicate (length feeders) false) (length feeders) (next_ready feeders (replicate (length feeders) false)) in
    whole_on feeders (replicate (length feeders) false) (length feeders) (next_ready feeders (replicate (length feeders) false)) refl (left_none (length feeders))
    (grind (arith, nat_tests, most))

pub no_order : (feeders : List (List ℕ)) → loops feeders ≡ true → (ks : List ℕ) → IsOrder feeders ks → ⊥
no_order feeders e ks h =
    short_on feeders (replicate (length feeders) false) (length feeders) (next_ready feeders (replicate (length feeders) false)) refl (left_none (length feeders))
    (grind (arith, nat_tests)) (replicate (length feeders) false) refl (λ j k. k) ks h

-- ---- over vectors

module _ {A : Type 0} (vs : List (Vec ℕ A)) where
  pub starts_there : (taken : List Bool) → taken ≡ replicate (length vs) false → order_of (lists vs) ≡ order_from (lists vs) taken (left taken)
  starts_there taken e =
      ap (λ (n : ℕ). order_from (lists vs) (replicate n false) n) (lists_size vs)
      ∙ ap (λ (n : ℕ). order_from (lists vs) (replicate (length vs) false) n) (sym (left_none (length vs)))
      ∙ ap (λ (bs : List Bool). order_from (lists vs) bs (left bs)) (sym e)

  pub ends_with : (taken : List Bool) (front : List ℕ) → ((j : ℕ) → j < length taken → is_ready (lists vs) taken j ≡ false)
      → order_of (lists vs) ≡ front ++ order_from (lists vs) taken (left taken) → order_of (lists vs) ≡ front
  ends_with taken front none e =
      ends_there (lists vs) (replicate (length (lists vs)) false) taken (length (lists vs)) front none e
