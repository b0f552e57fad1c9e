-- How often something stands in a list.
use Rattle.std.proofs.Common.{◌≡◌, inl, inr, ℕ, zero, suc, ◌+◌, ◌<◌, ◌≤◌, ◌==◌, ◌||◌, Bool, true, false, cond, List, [], ◌∷◌, ◌++◌, map, length, refl, sym, ap, ◌∙◌, arith}
use Rattle.std.proofs.lemmas.Bool.Decides.{nat_tests}
use Rattle.std.proofs.lemmas.Map.Steps.{length-le_from_distinct_below, le-length_from_below}
use Rattle.std.proofs.lemmas.Slice.Eq.{bytes_eq-Decides}
use Rattle.std.specs.List.{AllByRecursion, IsDistinct, filter, flat_map, list_any, range_with_len}
use Rattle.std.specs.Str.{bytes_eq}
use Rattle.ff_stream.specs.edges.Ports.{tally}
use Rattle.ff_plan_layout.specs.Layout.{IsAmong, EachOnce}
use Rattle.ff_plan_layout.proofs.Among.{never}
use Rattle.ff_plan_layout.proofs.Sizes.{less_or}
use Rattle.ff_plan_layout.proofs.Tests.{tally_hit, tally_miss, is_same, same_test}

-- the sum of what each element gives
abbrev pub total : {A : Type 0} → (A → ℕ) → List A → ℕ
total f [] = 0
total f (x ∷ xs) = f x + total f xs

module _ {A : Type 0} where
  pub total_same : (f g : A → ℕ) (xs : List A) → ((x : A) → IsAmong x xs → f x ≡ g x) → total f xs ≡ total g xs
  total_same f g [] each = refl
  total_same f g (x ∷ xs) each = (let a = each x (inl refl) in let b = total_same f g xs (λ y i. each y (inr i)) in omega (arith, a, b))

  pub total_both : (f g : A → ℕ) (xs : List A) → total (λ x. f x + g x) xs ≡ total f xs + total g xs
  total_both f g [] = omega arith
  total_both f g (x ∷ xs) = (let e = total_both f g xs in omega (arith, e))

  pub total_zero : (f : A → ℕ) (xs : List A) → ((x : A) → IsAmong x xs → f x ≡ 0) → total f xs ≡ 0
  total_zero f [] each = refl
  total_zero f (x ∷ xs) each = (let a = each x (inl refl) in let b = total_zero f xs (λ y i. each y (inr i)) in omega (arith, a, b))

module _ {A : Type 0} (p : A → Bool) where
  pub tally_joined : (xs ys : List A) → tally p (xs ++ ys) ≡ tally p xs + tally p ys
  tally_joined [] ys = omega arith
  tally_joined (x ∷ xs) ys = step (p x) (tally_joined xs ys) where
    step : (b : Bool) → tally p (xs ++ ys) ≡ tally p xs + tally p ys → cond b (suc (tally p (xs ++ ys))) (tally p (xs ++ ys)) ≡ cond b (suc (tally p xs)) (tally p xs) + tally p ys
    step true e = omega (arith, e)
    step false e = e

  pub tally_none : (xs : List A) → ((x : A) → IsAmong x xs → p x ≡ false) → tally p xs ≡ 0
  tally_none [] each = refl
  tally_none (x ∷ xs) each = tally_miss p x xs (each x (inl refl)) ∙ tally_none xs (λ y i. each y (inr i))

  pub tally_any : (xs : List A) → list_any p xs ≡ true → 1 ≤ tally p xs
  tally_any [] h = absurd (never h)
  tally_any (x ∷ xs) h = step (p x) refl h (tally_any xs) where
    step : (b : Bool) → p x ≡ b → (b || list_any p xs) ≡ true → (list_any p xs ≡ true → 1 ≤ tally p xs) → 1 ≤ cond b (suc (tally p xs)) (tally p xs)
    step true e k rest = omega arith
    step false e k rest = rest k

  pub tally_not_any : (xs : List A) → list_any p xs ≡ false → tally p xs ≡ 0
  tally_not_any [] h = refl
  tally_not_any (x ∷ xs) h = step (p x) refl h (tally_not_any xs) where
    step : (b : Bool) → p x ≡ b → (b || list_any p xs) ≡ false → (list_any p xs ≡ false → tally p xs ≡ 0) → cond b (suc (tally p xs)) (tally p xs) ≡ 0
    step true e k rest = absurd (never (sym k))
    step false e k rest = rest k

  pub any_tally : (xs : List A) → 1 ≤ tally p xs → list_any p xs ≡ true
  any_tally xs h = step (list_any p xs) refl where
    step : (b : Bool) → list_any p xs ≡ b → b ≡ true
    step true e = refl
    step false e = absurd (let z = tally_not_any xs e in omega (arith, h, z))

  pub not_any_tally : (xs : List A) → tally p xs ≡ 0 → list_any p xs ≡ false
  not_any_tally xs h = step (list_any p xs) refl where
    step : (b : Bool) → list_any p xs ≡ b → b ≡ false
    step true e = absurd (let z = tally_any xs e in omega (arith, h, z))
    step false e = refl

  -- one that passes is counted
  pub tally_among : (x : A) (xs : List A) → IsAmong x xs → p x ≡ true → 1 ≤ tally p xs
  tally_among x [] i e = absurd i
  tally_among x (y ∷ ys) (inl same) e = (let h = tally_hit p y ys (ap p same ∙ e) in omega (arith, h))
  tally_among x (y ∷ ys) (inr i) e = step (p y) (tally_among x ys i e) where
    step : (b : Bool) → 1 ≤ tally p ys → 1 ≤ cond b (suc (tally p ys)) (tally p ys)
    step true h = omega arith
    step false h = h

  pub tally_filter_out : (q : A → Bool) (xs : List A) → ((x : A) → p x ≡ true → q x ≡ false) → tally p (filter q xs) ≡ 0
  tally_filter_out q [] each = refl
  tally_filter_out q (x ∷ xs) each = step (q x) refl (tally_filter_out q xs each) where
    other : (b : Bool) → p x ≡ b → q x ≡ true → b ≡ false
    other true e f = absurd (never (sym (each x e) ∙ f))
    other false e f = refl

    step : (b : Bool) → q x ≡ b → tally p (filter q xs) ≡ 0 → tally p (cond b (x ∷ filter q xs) (filter q xs)) ≡ 0
    step true e h = tally_miss p x (filter q xs) (other (p x) refl e) ∙ h
    step false e h = h

  pub tally_filter_in : (q : A → Bool) (xs : List A) → ((x : A) → p x ≡ true → q x ≡ true) → tally p (filter q xs) ≡ tally p xs
  tally_filter_in q [] each = refl
  tally_filter_in q (x ∷ xs) each = step (q x) refl (tally_filter_in q xs each) where
    other : (b : Bool) → p x ≡ b → q x ≡ false → b ≡ false
    other true e f = absurd (never (sym f ∙ each x e))
    other false e f = refl

    step : (b : Bool) → q x ≡ b → tally p (filter q xs) ≡ tally p xs → tally p (cond b (x ∷ filter q xs) (filter q xs)) ≡ tally p (x ∷ xs)
    step true e h = more (p x) where
      more : (c : Bool) → cond c (suc (tally p (filter q xs))) (tally p (filter q xs)) ≡ cond c (suc (tally p xs)) (tally p xs)
      more true = ap suc h
      more false = h
    step false e h = h ∙ sym (tally_miss p x xs (other (p x) refl e))

pub tally_filter_few : {A : Type 0} (p q : A → Bool) (xs : List A) → tally p (filter q xs) ≤ tally p xs
tally_filter_few p q [] = omega arith
tally_filter_few p q (x ∷ xs) = step (q x) (p x) (tally_filter_few p q xs) refl where
  step : (b c : Bool) → tally p (filter q xs) ≤ tally p xs → p x ≡ c → tally p (cond b (x ∷ filter q xs) (filter q xs)) ≤ cond c (suc (tally p xs)) (tally p xs)
  step true true h e = (let k = tally_hit p x (filter q xs) e in omega (arith, k, h))
  step true false h e = (let k = tally_miss p x (filter q xs) e in omega (arith, k, h))
  step false true h e = omega (arith, h)
  step false false h e = h

pub total_map : {A B : Type 0} (f : B → ℕ) (g : A → B) (xs : List A) → total f (map g xs) ≡ total (λ x. f (g x)) xs
total_map f g [] = refl
total_map f g (x ∷ xs) = ap (λ (n : ℕ). f (g x) + n) (total_map f g xs)

pub tally_same : {A : Type 0} (p q : A → Bool) (xs : List A) → ((x : A) → IsAmong x xs → p x ≡ q x) → tally p xs ≡ tally q xs
tally_same p q [] each = refl
tally_same p q (x ∷ xs) each =
    ap (λ (b : Bool). cond b (suc (tally p xs)) (tally p xs)) (each x (inl refl))
    ∙ ap (λ (n : ℕ). cond (q x) (suc n) n) (tally_same p q xs (λ y i. each y (inr i)))

pub tally_map : {A B : Type 0} (p : B → Bool) (f : A → B) (xs : List A) → tally p (map f xs) ≡ tally (λ x. p (f x)) xs
tally_map p f [] = refl
tally_map p f (x ∷ xs) = ap (λ (n : ℕ). cond (p (f x)) (suc n) n) (tally_map p f xs)

pub tally_flat : {A B : Type 0} (p : B → Bool) (f : A → List B) (xs : List A) → tally p (flat_map f xs) ≡ total (λ x. tally p (f x)) xs
tally_flat p f [] = refl
tally_flat p f (x ∷ xs) = tally_joined p (f x) (flat_map f xs) ∙ ap (λ (n : ℕ). tally p (f x) + n) (tally_flat p f xs)

-- ---- numbers that stand once each

abbrev times : ℕ → ℕ → ℕ
times zero v = 0
times (suc k) v = v + times k v

one_above : (f : ℕ → ℕ) (x a k : ℕ) → x < a → total (λ i. cond (x == i) (f i) 0) (range_with_len a k) ≡ 0
one_above f x a zero lt = refl
one_above f x a (suc k) lt =
    let off : (x == a) ≡ false = grind (arith, nat_tests) in
    ap (λ (b : Bool). cond b (f a) 0 + total (λ i. cond (x == i) (f i) 0) (range_with_len (a + 1) k)) off
    ∙ (let rest = one_above f x (a + 1) k (omega (arith, lt)) in omega (arith, rest))

one_in : (f : ℕ → ℕ) (x a k : ℕ) → a ≤ x → x < a + k → total (λ i. cond (x == i) (f i) 0) (range_with_len a k) ≡ f x
one_in f x a zero le lt = absurd (omega (arith, le, lt))
one_in f x a (suc k) le lt = step (x == a) refl (λ above. one_in f x (a + 1) k above (omega (arith, lt))) where
  step : (b : Bool) → (x == a) ≡ b → (a + 1 ≤ x → total (λ i. cond (x == i) (f i) 0) (range_with_len (a + 1) k) ≡ f x)
      → cond b (f a) 0 + total (λ i. cond (x == i) (f i) 0) (range_with_len (a + 1) k) ≡ f x
  step true e more =
      let same = is_same x a e in
      let rest = one_above f x (a + 1) k (omega (arith, same)) in
      let here : f x ≡ f a = ap f same in
      omega (arith, rest, here)
  step false e more =
      let above : a + 1 ≤ x = grind (arith, nat_tests) in
      let rest = more above in omega (arith, rest)

weigh_step : (b : Bool) (t v : ℕ) → times (cond b (suc t) t) v ≡ cond b v 0 + times t v
weigh_step true t v = refl
weigh_step false t v = omega arith

weighed : (f : ℕ → ℕ) (n : ℕ) (xs : List ℕ) → ((x : ℕ) → IsAmong x xs → x < n) → total f xs ≡ total (λ i. times (tally (λ x. x == i) xs) (f i)) (range_with_len 0 n)
weighed f n [] each = sym (total_zero (λ i. 0) (range_with_len 0 n) (λ i a. refl))
weighed f n (x ∷ xs) each =
    let here = one_in f x 0 n (omega arith) (let lt = each x (inl refl) in omega (arith, lt)) in
    let rest = weighed f n xs (λ y i. each y (inr i)) in
    let one : ℕ → ℕ = λ i. cond (x == i) (f i) 0 in
    let more : ℕ → ℕ = λ i. times (tally (λ y. y == i) xs) (f i) in
    let both = total_both one more (range_with_len 0 n) in
    let split = total_same (λ i. times (tally (λ y. y == i) (x ∷ xs)) (f i)) (λ i. one i + more i) (range_with_len 0 n) (λ i a. weigh_step (x == i) (tally (λ y. y == i) xs) (f i)) in
    omega (arith, here, rest, both, split)

pub below_range : (x a n : ℕ) → IsAmong x (range_with_len a n) → (a ≤ x) × (x < a + n)
below_range x a zero i = absurd i
below_range x a (suc n) (inl e) = (omega (arith, e), omega (arith, e))
below_range x a (suc n) (inr i) = (let r = below_range x (a + 1) n i in let lo = r.0 in let hi = r.1 in (omega (arith, lo), omega (arith, hi)))

pub one_at_range : (f : ℕ → ℕ) (x n : ℕ) → x < n → total (λ i. cond (x == i) (f i) 0) (range_with_len 0 n) ≡ f x
one_at_range f x n lt = one_in f x 0 n (omega arith) (omega (arith, lt))

-- so their order is nothing to a sum
pub total_order : (f : ℕ → ℕ) (n : ℕ) (xs : List ℕ) → ((x : ℕ) → IsAmong x xs → x < n) → ((i : ℕ) → i < n → tally (λ x. x == i) xs ≡ 1) → total f xs ≡ total f (range_with_len 0 n)
total_order f n xs low once =
    weighed f n xs low
    ∙ total_same (λ i. times (tally (λ x. x == i) xs) (f i)) f (range_with_len 0 n) (λ i a.
    (let r = below_range i 0 n a in let lt = r.1 in let t = once i (omega (arith, lt)) in ap (λ (k : ℕ). times k (f i)) t ∙ omega arith))

any_same : (q : ℕ) (xs : List ℕ) → list_any (λ x. q == x) xs ≡ list_any (λ x. x == q) xs
any_same q [] = refl
any_same q (x ∷ xs) =
    let turn : (q == x) ≡ (x == q) = grind (arith, nat_tests) in
    ap (λ (b : Bool). b || list_any (λ y. q == y) xs) turn ∙ ap (λ (b : Bool). (x == q) || b) (any_same q xs)

apart_all : (x : ℕ) (xs : List ℕ) → tally (λ y. y == x) xs ≡ 0 → AllByRecursion (λ y. (x == y) ≡ false) xs
apart_all x [] h = tt
apart_all x (y ∷ ys) h = step (y == x) refl h (λ k. apart_all x ys k) where
  step : (b : Bool) → (y == x) ≡ b → cond b (suc (tally (λ z. z == x) ys)) (tally (λ z. z == x) ys) ≡ 0
      → (tally (λ z. z == x) ys ≡ 0 → AllByRecursion (λ z. (x == z) ≡ false) ys) → AllByRecursion (λ z. (x == z) ≡ false) (y ∷ ys)
  step true e k rest = absurd (omega (arith, k))
  step false e k rest = ((let off : (x == y) ≡ false = grind (arith, nat_tests) in off), rest k)

pub distinct_by : (xs : List ℕ) → ((q : ℕ) → tally (λ x. x == q) xs ≤ 1) → IsDistinct (λ p q. p == q) xs
unfolding IsDistinct
distinct_by [] few = tt
distinct_by (x ∷ xs) few =
    let here = tally_hit (λ y. y == x) x xs (same_test x x refl) in
    let most = few x in
    (apart_all x xs (omega (arith, here, most)), distinct_by xs (λ q. step (x == q) q (few q))) where
      step : (b : Bool) (q : ℕ) → cond b (suc (tally (λ y. y == q) xs)) (tally (λ y. y == q) xs) ≤ 1 → tally (λ y. y == q) xs ≤ 1
      step true q h = omega (arith, h)
      step false q h = h

is_among : (q : ℕ) (xs : List ℕ) → list_any (λ x. x == q) xs ≡ true → IsAmong q xs
is_among q [] h = absurd (never h)
is_among q (x ∷ xs) h = step (x == q) refl h (λ k. is_among q xs k) where
  step : (b : Bool) → (x == q) ≡ b → (b || list_any (λ y. y == q) xs) ≡ true → (list_any (λ y. y == q) xs ≡ true → IsAmong q xs) → IsAmong q (x ∷ xs)
  step true e k rest = inl (is_same x q e)
  step false e k rest = inr (rest k)

-- each number below n once and no other
module _ (n : ℕ) (xs : List ℕ) (in_ : (q : ℕ) → q < n → tally (λ x. x == q) xs ≡ 1) (out : (q : ℕ) → n ≤ q → tally (λ x. x == q) xs ≡ 0) where
  few_at : (q : ℕ) → tally (λ x. x == q) xs ≤ 1
  few_at q = elim (less_or q n) [ inl lt ↦ (let o = in_ q lt in omega (arith, o)) | inr le ↦ (let o = out q le in omega (arith, o)) ]

  low : (q : ℕ) → 1 ≤ tally (λ x. x == q) xs → q < n
  low q h = elim (less_or q n) [ inl lt ↦ lt | inr le ↦ absurd (let o = out q le in omega (arith, o, h)) ]

  pub once_length : length xs ≡ n
  once_length =
      let most = length-le_from_distinct_below xs n (distinct_by xs few_at) (λ q h. low q (tally_any (λ x. x == q) xs (sym (any_same q xs) ∙ h))) in
      let least = le-length_from_below xs n (λ q lt. any_same q xs ∙ any_tally (λ x. x == q) xs (let o = in_ q lt in omega (arith, o))) in
      omega (arith, most, least)

  -- these are the numbers below their length, once each
  pub once_each : EachOnce xs
  once_each = record {
    all = λ q lt. is_among q xs (any_tally (λ x. x == q) xs (let long = once_length in let o = in_ q (omega (arith, lt, long)) in omega (arith, o)));
    below = λ q i. (let long = once_length in let l = low q (tally_among (λ x. x == q) q xs i (same_test q q refl)) in omega (arith, l, long));
    distinct = distinct_by xs few_at;
  }

-- ---- texts

pub same_text : (a b : List ℕ) → bytes_eq a b ≡ true → a ≡ b
same_text a b h = (bytes_eq-Decides a b).0 h

pub text_self : (a : List ℕ) → bytes_eq a a ≡ true
text_self a = (bytes_eq-Decides a a).1 refl

pub turn_text : (a b : List ℕ) → bytes_eq a b ≡ bytes_eq b a
turn_text a b = step (bytes_eq a b) (bytes_eq b a) refl refl where
  step : (x y : Bool) → bytes_eq a b ≡ x → bytes_eq b a ≡ y → x ≡ y
  step true true e f = refl
  step false false e f = refl
  step true false e f = absurd (never (sym f ∙ (bytes_eq-Decides b a).1 (sym (same_text a b e))))
  step false true e f = absurd (never (sym e ∙ (bytes_eq-Decides a b).1 (sym (same_text b a f))))
