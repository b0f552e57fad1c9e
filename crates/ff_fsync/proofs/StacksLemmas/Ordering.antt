-- What is shown of valid streams is in order.
use Rattle.std.specs.Prelude.{◌≡◌, ℕ, zero, suc, ◌<◌, ◌≤◌, ◌⊎◌, ◌≤ℤ◌, Bool, true, false, ◌||◌, nat_le, All, List, [], ◌∷◌, ◌++◌, refl}
use Rattle.std.proofs.Common.{inl, inr, ap, sym, ◌∙◌, subst, arith, append_assoc}
use Rattle.std.proofs.lemmas.Bool.{cases_Bool, or_cases, or_left, or_right, leb-true, le-leb}
use Rattle.std.proofs.lemmas.Int.{ints}
use Rattle.ff_fsync.proofs.StacksLemmas.Alls.{all_none, all_more, all_first, all_others}
use Rattle.ff_stream.specs.declared.item.Item.{Item}
use Rattle.ff_stream.specs.declared.item.Lane.{Lane}
use Rattle.ff_stream.specs.Times.{HasTime, end_of}
use Rattle.ff_stream.specs.Lanes.{IsItemFor, InOrder, Follows}
use Rattle.ff_filter.specs.Shifts.{start_ticks}
use Rattle.ff_fsync.specs.Events.{events, put_if}
use Rattle.ff_fsync.specs.Ranges.{list_to}
use Rattle.ff_fsync.specs.Synced.{some_of, last_of, later_of, pick}

append_none : {A : Type 0} (xs : List A) → xs ≡ xs ++ []
append_none [] = refl
append_none (x ∷ xs) = ap (λ ys. x ∷ ys) (append_none xs)

-- what is listed of all ports is what is listed of the first, and then of the others
pub list_shift : {A : Type 0} (n : ℕ) (g : ℕ → List A) → list_to (suc n) g ≡ g 0 ++ list_to n (λ p. g (suc p))
list_shift zero g = append_none (g 0)
list_shift (suc n) g = ap (λ xs. xs ++ g (suc n)) (list_shift n g) ∙ append_assoc (g 0) (list_to n (λ p. g (suc p))) (g (suc n))

-- the last of these items by a time, where one starts by then
pub record IsLast (lane : Lane) (t : ℕ) (xs : List Item) (x : Item) : Type 0 where
  pub is : last_of (λ y. nat_le (start_ticks y) t) xs ≡ x ∷ []
  pub item : IsItemFor lane x
  pub by : start_ticks x ≤ t
  pub begun : some_of (λ y. nat_le (start_ticks y) t) xs ≡ true

abbrev Last : Lane → ℕ → List Item → Type 0
Last lane t xs = ((some_of (λ y. nat_le (start_ticks y) t) xs ≡ false) × (last_of (λ y. nat_le (start_ticks y) t) xs ≡ [])) ⊎ ((x : Item) × IsLast lane t xs x)

or_none : (b c : Bool) → b ≡ false → c ≡ false → (b || c) ≡ false
or_none b c e f = ap (λ x. x || c) e ∙ f

pub last_item : (lane : Lane) (t : ℕ) (xs : List Item) → All (IsItemFor lane) xs → Last lane t xs
last_item lane t [] a = inl (refl, refl)
last_item lane t (z ∷ zs) a = elim (last_item lane t zs (all_others (IsItemFor lane) z zs a)) as (λ _. Last lane t (z ∷ zs)) [
  | inl none ↦ elim (cases_Bool (nat_le (start_ticks z) t)) as (λ _. Last lane t (z ∷ zs)) [
    | inl e ↦ inr (
      z,
      record {
        is = ap (λ (ys : List Item). later_of ys (pick (nat_le (start_ticks z) t) z)) none.1 ∙ ap (λ b. pick b z) e;
        item = all_first (IsItemFor lane) z zs a;
        by = leb-true (start_ticks z) t e;
        begun = or_left _ _ e;
      },
    )
    | inr n ↦ inl (
      or_none _ _ n none.0,
      ap (λ (ys : List Item). later_of ys (pick (nat_le (start_ticks z) t) z)) none.1 ∙ ap (λ b. pick b z) n,
    )
  ]
  | inr r ↦ inr (
    r.0,
    record {
      is = ap (λ (ys : List Item). later_of ys (pick (nat_le (start_ticks z) t) z)) r.1.is;
      item = r.1.item;
      by = r.1.by;
      begun = or_right _ _ r.1.begun;
    },
  )
]

pub begun_later : (t u : ℕ) (xs : List Item) → t ≤ u → some_of (λ y. nat_le (start_ticks y) t) xs ≡ true → some_of (λ y. nat_le (start_ticks y) u) xs ≡ true
begun_later t u [] le h = cc
begun_later t u (x ∷ xs) le h = elim (or_cases (nat_le (start_ticks x) t) (some_of (λ y. nat_le (start_ticks y) t) xs) h) as (λ _. some_of (λ y. nat_le (start_ticks y) u) (x ∷ xs) ≡ true) [
  | inl here ↦ or_left _ _ (le-leb (start_ticks x) u (let l = leb-true (start_ticks x) t here in omega (arith, l, le)))
  | inr there ↦ or_right _ _ (begun_later t u xs le there)
]

picked : (b : Bool) (z x : Item) → pick b z ≡ x ∷ [] → z ≡ x
picked true z x e = cc
picked false z x e = cc

module _ (lane : Lane) (timed : (x : Item) → IsItemFor lane x → HasTime x) where
  others : (x : Item) (xs : List Item) → InOrder lane (x ∷ xs) → InOrder lane xs
  others x [] o = tt
  others x (y ∷ ys) o = o.1

  -- the last of them by a time ends no sooner than one before
  ends_behind : (t : ℕ) (z : Item) (zs : List Item) (y : Item) → All (IsItemFor lane) zs → InOrder lane (z ∷ zs)
      → last_of (λ x. nat_le (start_ticks x) t) zs ≡ y ∷ [] → end_of z ≤ℤ end_of y
  ends_behind t z [] y a o e = cc
  ends_behind t z (w ∷ ws) y a o e = elim (last_item lane t ws (all_others (IsItemFor lane) w ws a)) as (λ _. end_of z ≤ℤ end_of y) [
    | inl none ↦ (
        let is : w ≡ y = picked (nat_le (start_ticks w) t) w y (sym (ap (λ (ys : List Item). later_of ys (pick (nat_le (start_ticks w) t) w)) none.1) ∙ e) in
        subst (λ x. end_of z ≤ℤ end_of x) is (o.0.ends (timed w (all_first (IsItemFor lane) w ws a))))
    | inr r ↦ (
        let is : r.0 ∷ [] ≡ y ∷ [] = sym (ap (λ (ys : List Item). later_of ys (pick (nat_le (start_ticks w) t) w)) r.1.is) ∙ e in
        let first : end_of z ≤ℤ end_of w = o.0.ends (timed w (all_first (IsItemFor lane) w ws a)) in
        let more : end_of w ≤ℤ end_of y = ends_behind t w ws y (all_others (IsItemFor lane) w ws a) o.1 (r.1.is ∙ is) in
        omega (arith, ints))
  ]

  -- by a later time, no sooner
  pub ends_later : (t u : ℕ) (xs : List Item) (x y : Item) → t ≤ u → All (IsItemFor lane) xs → InOrder lane xs
      → last_of (λ w. nat_le (start_ticks w) t) xs ≡ x ∷ [] → last_of (λ w. nat_le (start_ticks w) u) xs ≡ y ∷ [] → end_of x ≤ℤ end_of y
  ends_later t u [] x y le a o e f = cc
  ends_later t u (z ∷ zs) x y le a o e f = elim (last_item lane t zs (all_others (IsItemFor lane) z zs a)) as (λ _. end_of x ≤ℤ end_of y) [
    | inl none ↦ (
        let here : z ≡ x = picked (nat_le (start_ticks z) t) z x (sym (ap (λ (ys : List Item). later_of ys (pick (nat_le (start_ticks z) t) z)) none.1) ∙ e) in
        subst (λ w. end_of w ≤ℤ end_of y) here (elim (last_item lane u zs (all_others (IsItemFor lane) z zs a)) as (λ _. end_of z ≤ℤ end_of y) [
          | inl gone ↦ (
              let same : z ≡ y = picked (nat_le (start_ticks z) u) z y (sym (ap (λ (ys : List Item). later_of ys (pick (nat_le (start_ticks z) u) z)) gone.1) ∙ f) in
              subst (λ w. end_of z ≤ℤ end_of w) same (omega (arith, ints)))
          | inr r ↦ ends_behind u z zs y (all_others (IsItemFor lane) z zs a) o (r.1.is ∙ (sym (ap (λ (ys : List Item). later_of ys (pick (nat_le (start_ticks z) u) z)) r.1.is) ∙ f))
        ]))
    | inr s ↦ elim (last_item lane u zs (all_others (IsItemFor lane) z zs a)) as (λ _. end_of x ≤ℤ end_of y) [
      | inl gone ↦ (let clash : true ≡ false = sym (begun_later t u zs le s.1.begun) ∙ gone.0 in cc)
      | inr r ↦ ends_later t u zs x y le (all_others (IsItemFor lane) z zs a) (others z zs o)
          (s.1.is ∙ (sym (ap (λ (ys : List Item). later_of ys (pick (nat_le (start_ticks z) t) z)) s.1.is) ∙ e))
          (r.1.is ∙ (sym (ap (λ (ys : List Item). later_of ys (pick (nat_le (start_ticks z) u) z)) r.1.is) ∙ f))
    ]
  ]

-- what happens at the times of a stretch, where each is an item of the way and follows the one before
module _ (lane : Lane) (p : ℕ → Bool) (f : ℕ → Item) (each : (t : ℕ) → p t ≡ true → IsItemFor lane (f t))
    (follows : (t u : ℕ) → t < u → p t ≡ true → p u ≡ true → Follows lane (f t) (f u)) where
  pub events_each : (lo k : ℕ) → All (IsItemFor lane) (events p f lo k)
  events_each lo zero = all_none (IsItemFor lane)
  events_each lo (suc k) = at (p lo) refl (events_each (suc lo) k)
    where
      at : (b : Bool) → p lo ≡ b → All (IsItemFor lane) (events p f (suc lo) k) → All (IsItemFor lane) (put_if b (f lo) (events p f (suc lo) k))
      at true e more = all_more (IsItemFor lane) (f lo) (events p f (suc lo) k) (each lo e) more
      at false e more = more

  events_behind : (t lo k : ℕ) → t < lo → p t ≡ true → InOrder lane (f t ∷ events p f lo k)
  events_behind t lo zero lt e = tt
  events_behind t lo (suc k) lt e = at (p lo) refl (λ h. events_behind lo (suc lo) k (omega arith) h) (events_behind t (suc lo) k (omega (arith, lt)) e)
    where
      at : (b : Bool) → p lo ≡ b → (p lo ≡ true → InOrder lane (f lo ∷ events p f (suc lo) k)) → InOrder lane (f t ∷ events p f (suc lo) k)
          → InOrder lane (f t ∷ put_if b (f lo) (events p f (suc lo) k))
      at true h here later = (follows t lo lt e h, here h)
      at false h here later = later

  pub events_order : (lo k : ℕ) → InOrder lane (events p f lo k)
  events_order lo zero = tt
  events_order lo (suc k) = at (p lo) refl (events_order (suc lo) k)
    where
      at : (b : Bool) → p lo ≡ b → InOrder lane (events p f (suc lo) k) → InOrder lane (put_if b (f lo) (events p f (suc lo) k))
      at true h later = events_behind lo (suc lo) k (omega arith) h
      at false h later = later
