-- Orders of graphs that feed each other: none stands twice, each stands behind its feeders, and without a loop all have their places.
use Rattle.std.proofs.Common.{◌≡◌, ◌≢◌, ◌⊎◌, inl, inr, ℕ, zero, suc, ◌+◌, ◌-◌, ◌<◌, ◌≤◌, ◌==◌, ◌&&◌, ◌||◌, Bool, true, false, not, cond, eqb, Option, Some, None, List, [], ◌∷◌, ◌++◌, length, refl, sym, ap, ◌∙◌, subst, arith, append_assoc, replicate, slice_set}
use Rattle.std.proofs.Math.Path.{fun_ext}
use Rattle.std.proofs.lemmas.List.{append-nil, get_or-set_other, length-replicate}
use Rattle.std.proofs.lemmas.List.FromFn.{get_or-map-range_with_len, length-map-range_with_len}
use Rattle.std.proofs.lemmas.Bool.{cases_lt}
use Rattle.std.proofs.lemmas.Bool.Decides.{nat_tests}
use Rattle.std.proofs.lemmas.Map.Keys.{IsDistinct-cons}
use Rattle.std.proofs.lemmas.Map.Steps.{length-le_from_distinct_below}
use Rattle.std.specs.List.{All, AllByRecursion, IsDistinct, filter, list_all, list_any, range_with_len}
use Rattle.ff_graph_links.specs.orders.Orders.{is_taken, are_taken, left, is_ready, next_ready, order_on}
use Rattle.ff_graph_links.specs.labels.Order.{below, comes_behind, is_in, feeders_to, feeders_by, order_by, ComeInOrder, HasNoLoop}
use Rattle.ff_graph_links.proofs.OrdersLemmas.Lowest.{first_none, first_some, left_none}
use Rattle.ff_graph_links.proofs.OrdersLemmas.Stuck.{left_falls, none_yet, size_set}

-- ---- tests

both : (a b : Bool) → (a && b) ≡ true → (a ≡ true) × (b ≡ true)
both true b h = (refl, h)
both false b h = absurd cc

either : (a b : Bool) → (a || b) ≡ true → (a ≡ true) ⊎ (b ≡ true)
either true b h = inl refl
either false b h = inr h

or_right : (a b : Bool) → b ≡ true → (a || b) ≡ true
or_right true b h = refl
or_right false b h = h

neither : (a b : Bool) → (a || b) ≡ false → (a ≡ false) × (b ≡ false)
neither true b h = absurd cc
neither false b h = (refl, h)

not_true : (a : Bool) → not a ≡ true → a ≡ false
not_true true h = absurd cc
not_true false h = refl

not_false : (a : Bool) → not a ≡ false → a ≡ true
not_false true h = refl
not_false false h = absurd cc

or_false : (a : Bool) → (a || false) ≡ a
or_false true = refl
or_false false = refl

or_true : (a : Bool) → (a || true) ≡ true
or_true true = refl
or_true false = refl

or_assoc : (a b c : Bool) → (a || (b || c)) ≡ ((a || b) || c)
or_assoc true b c = refl
or_assoc false b c = refl

set_here : (flags : List Bool) (k : ℕ) → k < length flags → is_taken (slice_set flags k true) k ≡ true
set_here [] k lt = absurd (omega arith)
set_here (b ∷ bs) zero lt = refl
set_here (b ∷ bs) (suc k) lt = set_here bs k (omega arith)

same_number : (a b : ℕ) → (a == b) ≡ true → a ≡ b
same_number a b h = grind (arith, nat_tests)

distinct_none : IsDistinct eqb []
unfolding IsDistinct
distinct_none = tt

-- ---- tests of the numbers of a range

all_below : (p : ℕ → Bool) (a k i : ℕ) → list_all p (range_with_len a k) ≡ true → a ≤ i → i < a + k → p i ≡ true
all_below p a zero i h le lt = absurd (omega arith)
all_below p a (suc k) i h le lt =
    let parts = both (p a) (list_all p (range_with_len (a + 1) k)) h in
    elim (cases_lt a i) [
      | inl less ↦ all_below p (a + 1) k i parts.1 (omega (arith, less)) (omega (arith, lt))
      | inr more ↦ (let e : a ≡ i = omega (arith, more, le) in subst (λ (j : ℕ). p j ≡ true) e parts.0)
    ]

not_all_step : (p : ℕ → Bool) (a k : ℕ) (b rest : Bool) → p a ≡ b → (b && rest) ≡ false → (rest ≡ false → (i : ℕ) × (i < (a + 1) + k) × (p i ≡ false)) → (i : ℕ) × (i < a + suc k) × (p i ≡ false)
not_all_step p a k true rest e h more = (let r = more h in let lt = r.1 in (r.0, omega (arith, lt), r.2))
not_all_step p a k false rest e h more = (a, omega arith, e)

not_all_below : (p : ℕ → Bool) (a k : ℕ) → list_all p (range_with_len a k) ≡ false → (i : ℕ) × (i < a + k) × (p i ≡ false)
not_all_below p a zero h = absurd cc
not_all_below p a (suc k) h = not_all_step p a k (p a) (list_all p (range_with_len (a + 1) k)) refl h (λ t. not_all_below p (a + 1) k t)

any_below : (p : ℕ → Bool) (a k i : ℕ) → a ≤ i → i < a + k → p i ≡ true → list_any p (range_with_len a k) ≡ true
any_below p a zero i le lt h = absurd (omega arith)
any_below p a (suc k) i le lt h = elim (cases_lt a i) [
  | inl less ↦ or_right (p a) (list_any p (range_with_len (a + 1) k)) (any_below p (a + 1) k i (omega (arith, less)) (omega (arith, lt)) h)
  | inr more ↦ (let e : a ≡ i = omega (arith, more, le) in ap (λ (b : Bool). b || list_any p (range_with_len (a + 1) k)) (ap p e ∙ h))
]

any_more : (p q : ℕ → Bool) (xs : List ℕ) → ((x : ℕ) → p x ≡ true → q x ≡ true) → list_any p xs ≡ true → list_any q xs ≡ true
any_more p q [] each h = h
any_more p q (x ∷ xs) each h = elim (either (p x) (list_any p xs) h) [
  | inl e ↦ ap (λ (b : Bool). b || list_any q xs) (each x e)
  | inr e ↦ or_right (q x) (list_any q xs) (any_more p q xs each e)
]

-- ---- flags of what was taken

in_last : (taken : List ℕ) (g j : ℕ) → is_in (taken ++ g ∷ []) j ≡ (is_in taken j || (j == g))
in_last [] g j = or_false (j == g)
in_last (x ∷ xs) g j = ap (λ (b : Bool). (j == x) || b) (in_last xs g j) ∙ or_assoc (j == x) (is_in xs j) (j == g)

set_at : (flags : List Bool) (g j : ℕ) (b : Bool) → (j == g) ≡ b → g < length flags → is_taken (slice_set flags g true) j ≡ (is_taken flags j || (j == g))
set_at flags g j true e lt =
    let same = same_number j g e in
    ap (λ (i : ℕ). is_taken (slice_set flags g true) i) same ∙ (set_here flags g lt ∙ sym (ap (λ (t : Bool). is_taken flags j || t) e ∙ or_true (is_taken flags j)))
set_at flags g j false e lt =
    let other : j ≢ g = grind (arith, nat_tests) in
    get_or-set_other flags g j true false other ∙ sym (ap (λ (t : Bool). is_taken flags j || t) e ∙ or_false (is_taken flags j))

fed_step : (flags : List Bool) (x : ℕ) (xs : List ℕ) (rest b : Bool) → are_taken flags xs ≡ rest → are_taken flags (cond b (x ∷ xs) xs) ≡ ((not b || is_taken flags x) && rest)
fed_step flags x xs rest true e = ap (λ (t : Bool). is_taken flags x && t) e
fed_step flags x xs rest false e = e

are_fed : (flags : List Bool) (p : ℕ → Bool) (xs : List ℕ) → are_taken flags (filter p xs) ≡ list_all (λ (a : ℕ). not (p a) || is_taken flags a) xs
are_fed flags p [] = refl
are_fed flags p (x ∷ xs) = fed_step flags x (filter p xs) (list_all (λ (a : ℕ). not (p a) || is_taken flags a) xs) (p x) (are_fed flags p xs)

-- ---- each behind its feeders

module _ (feed : ℕ → ℕ → Bool) (n : ℕ) where
  abbrev IsFed : List ℕ → ℕ → Type 0
  IsFed taken g = (a : ℕ) → a < n → feed a g ≡ true → is_in taken a ≡ true

  abbrev feeders : List (List ℕ)
  feeders = feeders_by feed n

  size : length feeders ≡ n
  size = length-map-range_with_len (feeders_to feed n) 0 n

  -- flags that are set for these
  record AreFlags (flags : List Bool) (taken : List ℕ) : Type 0 where
    long : length flags ≡ n
    each : (j : ℕ) → is_taken flags j ≡ is_in taken j

  at_start : AreFlags (replicate (length feeders) false) []
  at_start = record { long = length-replicate (length feeders) false ∙ size; each = λ j. none_yet (length feeders) j }

  one_set : (flags : List Bool) (taken : List ℕ) (g : ℕ) → g < n → AreFlags flags taken → AreFlags (slice_set flags g true) (taken ++ g ∷ [])
  one_set flags taken g lt are = record {
    long = size_set flags g true ∙ are.long;
    each = λ j. set_at flags g j (j == g) refl (let same = are.long in omega (arith, same, lt)) ∙ (ap (λ (b : Bool). b || (j == g)) (are.each j) ∙ sym (in_last taken g j));
  }

  fed_test : (flags : List Bool) (taken : List ℕ) (g : ℕ) → g < n → AreFlags flags taken
      → is_ready feeders flags g ≡ (not (is_in taken g) && list_all (λ (a : ℕ). not (feed a g) || is_in taken a) (below n))
  fed_test flags taken g lt are =
      ap (λ (l : List ℕ). not (is_taken flags g) && are_taken flags l) (get_or-map-range_with_len (feeders_to feed n) 0 n g g [] lt (omega arith))
      ∙ (ap (λ (b : Bool). not (is_taken flags g) && b) (are_fed flags (λ (a : ℕ). feed a g) (below n))
      ∙ ap (λ (f : ℕ → Bool). not (f g) && list_all (λ (a : ℕ). not (feed a g) || f a) (below n)) (fun_ext are.each))

  fed_by_test : (taken : List ℕ) (a g : ℕ) → (not (feed a g) || is_in taken a) ≡ true → feed a g ≡ true → is_in taken a ≡ true
  fed_by_test taken a g h e = elim (either (not (feed a g)) (is_in taken a) h) [
    | inl off ↦ absurd (let was = not_true (feed a g) off in cc)
    | inr on ↦ on
  ]

  next_is : (flags : List Bool) (taken : List ℕ) (g : ℕ) → next_ready feeders flags ≡ Some g → AreFlags flags taken → (g < n) × (is_in taken g ≡ false) × IsFed taken g
  next_is flags taken g e are =
      let low = first_some feeders flags 0 (length flags) g e in
      let lt : g < n = (let there = low.there in let same = are.long in omega (arith, there, same)) in
      let parts = both (not (is_in taken g)) (list_all (λ (a : ℕ). not (feed a g) || is_in taken a) (below n)) (sym (fed_test flags taken g lt are) ∙ low.ready) in
      (lt, not_true (is_in taken g) parts.0, λ a less on. fed_by_test taken a g (all_below (λ (a : ℕ). not (feed a g) || is_in taken a) 0 n a parts.1 (omega arith) (omega (arith, less))) on)

  in_order : (steps : ℕ) (flags : List Bool) (taken : List ℕ) (o : Option ℕ) → next_ready feeders flags ≡ o → AreFlags flags taken → ComeInOrder feed n taken (order_on feeders flags steps o)
  in_order steps flags taken None e are = tt
  in_order zero flags taken (Some g) e are = tt
  in_order (suc steps) flags taken (Some g) e are =
      let is = next_is flags taken g e are in
      (is.0, is.1, is.2, in_order steps (slice_set flags g true) (taken ++ g ∷ []) (next_ready feeders (slice_set flags g true)) refl (one_set flags taken g is.0 are))

  pub goes_upward : ComeInOrder feed n [] (order_by feed n)
  goes_upward = in_order (length feeders) (replicate (length feeders) false) [] (next_ready feeders (replicate (length feeders) false)) refl at_start

  below_in : (m : ℕ) → n ≤ m → (taken xs : List ℕ) → ComeInOrder feed n taken xs → All (λ (k : ℕ). k < m) xs
  below_in m le taken [] come k d lt = absurd (omega arith)
  below_in m le taken (x ∷ xs) come zero d lt = (let less = come.0 in omega (arith, less, le))
  below_in m le taken (x ∷ xs) come (suc k) d lt = below_in m le (taken ++ x ∷ []) xs come.3 k d (omega (arith, lt))

  pub stays_below : (m : ℕ) → n < m → All (λ (k : ℕ). k < m) (order_by feed n)
  stays_below m lt = below_in m (omega arith) [] (order_by feed n) goes_upward

  -- ---- how it ends: none is ready

  abbrev Ends : List ℕ → Type 0
  Ends taken = (flags : List Bool) × (next_ready feeders flags ≡ None) × AreFlags flags taken

  falls_by : (flags : List Bool) (taken : List ℕ) (g : ℕ) → next_ready feeders flags ≡ Some g → AreFlags flags taken → suc (left (slice_set flags g true)) ≡ left flags
  falls_by flags taken g e are =
      let is = next_is flags taken g e are in
      left_falls flags g (let lt = is.0 in let same = are.long in omega (arith, lt, same)) (are.each g ∙ is.1)

  ends : (steps : ℕ) (flags : List Bool) (taken : List ℕ) (o : Option ℕ) → next_ready feeders flags ≡ o → left flags ≡ steps → AreFlags flags taken → Ends (taken ++ order_on feeders flags steps o)
  ends steps flags taken None e h are = (flags, e, subst (λ (l : List ℕ). AreFlags flags l) (sym (append-nil taken)) are)
  ends zero flags taken (Some g) e h are = absurd (let falls = falls_by flags taken g e are in omega (arith, falls, h))
  ends (suc steps) flags taken (Some g) e h are =
      subst Ends (append_assoc taken (g ∷ []) (order_on feeders (slice_set flags g true) steps (next_ready feeders (slice_set flags g true))))
      (ends steps (slice_set flags g true) (taken ++ g ∷ []) (next_ready feeders (slice_set flags g true)) refl (let falls = falls_by flags taken g e are in omega (arith, falls, h))
      (one_set flags taken g (next_is flags taken g e are).0 are))

  all_end : Ends (order_by feed n)
  all_end = ends (length feeders) (replicate (length feeders) false) [] (next_ready feeders (replicate (length feeders) false)) refl (left_none (length feeders)) at_start

  none_equal : (g : ℕ) (xs : List ℕ) → is_in xs g ≡ false → AllByRecursion (λ y. eqb g y ≡ false) xs
  none_equal g [] h = tt
  none_equal g (x ∷ xs) h = (let parts = neither (g == x) (is_in xs g) h in (parts.0, none_equal g xs parts.1))

  -- ---- a walk from feeder to feeder

  abbrev Goes : ℕ → List ℕ → Type 0
  Goes g [] = Unit {0}
  Goes g (a ∷ rest) = (a < n) × (feed a g ≡ true) × Goes a rest

  more_steps : (k a b : ℕ) → comes_behind feed n k a b ≡ true → comes_behind feed n (suc k) a b ≡ true
  more_steps zero a b h = absurd cc
  more_steps (suc k) a b h = elim (either (feed a b) (list_any (λ c. comes_behind feed n k a c && feed c b) (below n)) h) [
    | inl e ↦ ap (λ (t : Bool). t || list_any (λ c. comes_behind feed n (suc k) a c && feed c b) (below n)) e
    | inr e ↦ or_right (feed a b) (list_any (λ c. comes_behind feed n (suc k) a c && feed c b) (below n))
        (any_more (λ c. comes_behind feed n k a c && feed c b) (λ c. comes_behind feed n (suc k) a c && feed c b) (below n) (λ c t.
        (let parts = both (comes_behind feed n k a c) (feed c b) t in ap (λ (u : Bool). u && feed c b) (more_steps k a c parts.0) ∙ parts.1)) e)
  ]

  up_to : (d k m a b : ℕ) → m ≡ k + d → comes_behind feed n k a b ≡ true → comes_behind feed n m a b ≡ true
  up_to zero k m a b e h = (let same : k ≡ m = omega (arith, e) in subst (λ (j : ℕ). comes_behind feed n j a b ≡ true) same h)
  up_to (suc d) k m a b e h = up_to d (suc k) m a b (omega (arith, e)) (more_steps k a b h)

  reach : (xs : List ℕ) (g b : ℕ) → Goes g xs → is_in xs b ≡ true → comes_behind feed n (length xs) b g ≡ true
  reach [] g b goes h = absurd cc
  reach (a ∷ xs) g b goes h = elim (either (b == a) (is_in xs b) h) [
    | inl e ↦ ap (λ (t : Bool). t || list_any (λ c. comes_behind feed n (length xs) b c && feed c g) (below n)) (ap (λ (j : ℕ). feed j g) (same_number b a e) ∙ goes.1)
    | inr e ↦ or_right (feed b g) (list_any (λ c. comes_behind feed n (length xs) b c && feed c g) (below n))
        (any_below (λ c. comes_behind feed n (length xs) b c && feed c g) 0 n a (omega arith) (let lt = goes.0 in omega (arith, lt))
        (ap (λ (t : Bool). t && feed a g) (reach xs a b goes.2 e) ∙ goes.1))
  ]

  abbrev Circles : ℕ → Type 0
  Circles long = (x : ℕ) × (x < n) × (k : ℕ) × (k ≤ long) × (comes_behind feed n k x x ≡ true)

  apart_step : (g a : ℕ) (xs : List ℕ) (b : Bool) → g < n → Goes g (a ∷ xs) → is_in (a ∷ xs) g ≡ b → IsDistinct eqb (a ∷ xs) ⊎ Circles (length xs) → IsDistinct eqb (g ∷ a ∷ xs) ⊎ Circles (length (a ∷ xs))
  apart_step g a xs true lt goes e more = inr (g, lt, length (a ∷ xs), omega arith, reach (a ∷ xs) g g goes e)
  apart_step g a xs false lt goes e (inl d) = inl (IsDistinct-cons eqb g (a ∷ xs) (none_equal g (a ∷ xs) e) d)
  apart_step g a xs false lt goes e (inr r) = (let le = r.3 in inr (r.0, r.1, r.2, omega (arith, le), r.4))

  apart_or_round : (g : ℕ) (xs : List ℕ) → g < n → Goes g xs → IsDistinct eqb (g ∷ xs) ⊎ Circles (length xs)
  apart_or_round g [] lt goes = inl (IsDistinct-cons eqb g [] tt distinct_none)
  apart_or_round g (a ∷ xs) lt goes = apart_step g a xs (is_in (a ∷ xs) g) lt goes refl (apart_or_round a xs goes.0 goes.2)

  -- none is ready: each that wasn't taken has a feeder that wasn't
  unmet : (taken : List ℕ) (g : ℕ) → Ends taken → g < n → is_in taken g ≡ false → (a : ℕ) × (a < n) × (feed a g ≡ true) × (is_in taken a ≡ false)
  unmet taken g end lt out =
      let none : is_ready feeders end.0 g ≡ false = first_none feeders end.0 0 (length end.0) end.1 g (omega arith) (let same = end.2.long in omega (arith, same, lt)) in
      let off = sym (fed_test end.0 taken g lt end.2) ∙ none in
      let fails : list_all (λ (a : ℕ). not (feed a g) || is_in taken a) (below n) ≡ false =
      sym (ap (λ (b : Bool). not b && list_all (λ (a : ℕ). not (feed a g) || is_in taken a) (below n)) out) ∙ off in
      let at = not_all_below (λ (a : ℕ). not (feed a g) || is_in taken a) 0 n fails in
      let parts = neither (not (feed at.0 g)) (is_in taken at.0) at.2 in
      (at.0, (let l = at.1 in omega (arith, l)), not_false (feed at.0 g) parts.0, parts.1)

  abbrev Walk : ℕ → ℕ → Type 0
  Walk k g = (xs : List ℕ) × (length xs ≡ k) × Goes g xs

  walk : (taken : List ℕ) (k g : ℕ) → Ends taken → g < n → is_in taken g ≡ false → Walk k g
  walk taken zero g end lt out = ([], refl, tt)
  walk taken (suc k) g end lt out =
      let a = unmet taken g end lt out in
      let rest = walk taken k a.0 end a.1 a.3 in
      let long = rest.1 in
      (a.0 ∷ rest.0, omega (arith, long), (a.1, a.2, rest.2))

  goes_below : (g : ℕ) (xs : List ℕ) (q : ℕ) → Goes g xs → is_in xs q ≡ true → q < n
  goes_below g [] q goes h = absurd cc
  goes_below g (a ∷ xs) q goes h = elim (either (q == a) (is_in xs q) h) [
    | inl e ↦ (let same = same_number q a e in let lt = goes.0 in omega (arith, same, lt))
    | inr e ↦ goes_below a xs q goes.2 e
  ]

  round_in : (k x : ℕ) → k ≤ n → comes_behind feed n k x x ≡ true → comes_behind feed n n x x ≡ true
  round_in k x le h = up_to (n - k) k n x x (omega arith) h

  stuck : (taken : List ℕ) (g : ℕ) → HasNoLoop feed n → Ends taken → g < n → is_in taken g ≡ false → ⊥
  stuck taken g no_loop end lt out =
      let w = walk taken n g end lt out in
      elim (apart_or_round g w.0 lt w.2) [
        | inl d ↦ (let few = length-le_from_distinct_below (g ∷ w.0) n d (λ q h. elim (either (q == g) (is_in w.0 q) h) [
          | inl e ↦ (let same = same_number q g e in omega (arith, same, lt))
          | inr e ↦ goes_below g w.0 q w.2 e
        ]) in let long = w.1 in omega (arith, few, long))
        | inr r ↦ (let le = r.3 in let long = w.1 in
            let loop_ : comes_behind feed n n r.0 r.0 ≡ true = round_in r.2 r.0 (omega (arith, le, long)) r.4 in
            let no : comes_behind feed n n r.0 r.0 ≡ false = no_loop r.0 r.1 in cc)
      ]

  whole_step : (g : ℕ) (b : Bool) → HasNoLoop feed n → g < n → is_in (order_by feed n) g ≡ b → b ≡ true
  whole_step g true no_loop lt e = refl
  whole_step g false no_loop lt e = absurd (stuck (order_by feed n) g no_loop all_end lt e)

  pub is_whole : (g : ℕ) → HasNoLoop feed n → g < n → is_in (order_by feed n) g ≡ true
  is_whole g no_loop lt = whole_step g (is_in (order_by feed n) g) no_loop lt refl
