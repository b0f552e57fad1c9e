-- What is made of a stream that goes on, breaks off or is valid.
use Rattle.std.specs.Prelude.{◌≡◌, ℕ, zero, suc, ◌^◌, ◌≤◌, ◌⊎◌, ℤ, List, [], ◌∷◌, ◌++◌, length, All, Option, None, Some, refl}
use Rattle.std.proofs.Common.{sym, subst, ap, inl, inr, ◌∙◌, arith}
use Rattle.ff_time.specs.Fraction.{Fraction}
use Rattle.ff_frame.specs.declared.head.StreamHead.{StreamHead}
use Rattle.ff_frame.specs.declared.head.StreamHead.TheVariants.{Audio as AudioHead, Video as VideoHead}
use Rattle.ff_stream.specs.declared.item.Item.{Item}
use Rattle.ff_stream.specs.declared.item.Lane.{Lane}
use Rattle.ff_stream.specs.Stream.{Mark, still_open, whole, broken, LiesBelow, opened, opened_mark}
use Rattle.ff_stream.specs.laws.Order.{prefix_self, same_stream}
use Rattle.ff_stream.specs.Ports.{IsClosed, IsUnbroken}
use Rattle.ff_stream.specs.Lanes.{base_of, head_of, StartsAfter, Follows, InOrder, IsItemFor, EndsInTime, IsValid}
use Rattle.ff_stream.specs.Times.{HasTime, start_of, end_of, ticks, IsInTime}
use Rattle.ff_filter.specs.Joins.{joined, joined_at}
use Rattle.ff_node_codec.specs.laws.codecs.Made.{IsMadeOf}
use Rattle.ff_net.specs.Ways.{Flow}
use Rattle.ff_node_codec.specs.Making.{Outcome, gives, passes, breaks, and_items, made_items, or_damage, damage_in, mark_by, made_stream, by_items}
use Rattle.ff_node_codec.specs.Spreads.{IsOutcomeOf, Carries, Makes}

-- ---- one stream after another

then_damage : Option ℕ → Option ℕ → Option ℕ
then_damage None d = d
then_damage (Some offset) d = Some offset

then_items : Option ℕ → List Item → List Item → List Item
then_items None xs ys = xs ++ ys
then_items (Some offset) xs ys = xs

damage_step : (o : Outcome) (d e : Option ℕ) → or_damage o (then_damage d e) ≡ then_damage (or_damage o d) e
unfolding then_damage
damage_step (gives y) d e = refl
damage_step passes d e = refl
damage_step (breaks offset) d e = refl

damage_append : (f : Item → Outcome) (xs ys : List Item) → damage_in f (xs ++ ys) ≡ then_damage (damage_in f xs) (damage_in f ys)
unfolding then_damage
damage_append f [] ys = refl
damage_append f (x ∷ xs) ys = ap (λ (d : Option ℕ). or_damage (f x) d) (damage_append f xs ys) ∙ damage_step (f x) (damage_in f xs) (damage_in f ys)

items_step : (o : Outcome) (d : Option ℕ) (xs ys : List Item) → and_items o (then_items d xs ys) ≡ then_items (or_damage o d) (and_items o xs) ys
unfolding then_items
items_step (gives y) None xs ys = refl
items_step (gives y) (Some offset) xs ys = refl
items_step passes d xs ys = refl
items_step (breaks offset) d xs ys = refl

items_append : (f : Item → Outcome) (xs ys : List Item) → made_items f (xs ++ ys) ≡ then_items (damage_in f xs) (made_items f xs) (made_items f ys)
unfolding then_items
items_append f [] ys = refl
items_append f (x ∷ xs) ys =
    ap (λ (zs : List Item). and_items (f x) zs) (items_append f xs ys) ∙ items_step (f x) (damage_in f xs) (made_items f xs) (made_items f ys)

module _ (f : Item → Outcome) (xs ys : List Item) where
  -- where nothing broke off, more comes of more
  pub damage_after : damage_in f xs ≡ None → damage_in f (xs ++ ys) ≡ damage_in f ys
  unfolding then_damage
  damage_after e = damage_append f xs ys ∙ ap (λ (d : Option ℕ). then_damage d (damage_in f ys)) e

  pub items_after : damage_in f xs ≡ None → made_items f (xs ++ ys) ≡ made_items f xs ++ made_items f ys
  unfolding then_items
  items_after e = items_append f xs ys ∙ ap (λ (d : Option ℕ). then_items d (made_items f xs) (made_items f ys)) e

  -- where something did, nothing
  pub damage_kept : (offset : ℕ) → damage_in f xs ≡ Some offset → damage_in f (xs ++ ys) ≡ Some offset
  unfolding then_damage
  damage_kept offset e = damage_append f xs ys ∙ ap (λ (d : Option ℕ). then_damage d (damage_in f ys)) e

  pub items_kept : (offset : ℕ) → damage_in f xs ≡ Some offset → made_items f (xs ++ ys) ≡ made_items f xs
  unfolding then_items
  items_kept offset e = items_append f xs ys ∙ ap (λ (d : Option ℕ). then_items d (made_items f xs) (made_items f ys)) e

pub some_or_none : (d : Option ℕ) → ((offset : ℕ) × (d ≡ Some offset)) ⊎ (d ≡ None)
some_or_none None = inr refl
some_or_none (Some offset) = inl (offset, refl)

-- ---- the order of streams

module _ (f : Item → Outcome) where
  longer_below : (xs ys : List Item) (m : Mark) → ((offset : ℕ) × (damage_in f xs ≡ Some offset)) ⊎ (damage_in f xs ≡ None)
      → LiesBelow (made_stream f (record { items = xs; mark = still_open })) (made_stream f (record { items = xs ++ ys; mark = m }))
  longer_below xs ys m (inl e) =
      inl (same_stream (made_stream f (record { items = xs; mark = still_open })) (made_stream f (record { items = xs ++ ys; mark = m }))
      (sym (items_kept f xs ys e.0 e.1))
      (ap (λ (d : Option ℕ). mark_by d still_open) e.1 ∙ sym (ap (λ (d : Option ℕ). mark_by d m) (damage_kept f xs ys e.0 e.1))))
  longer_below xs ys m (inr e) = inr (ap (λ (d : Option ℕ). mark_by d still_open) e, (made_items f ys, sym (items_after f xs ys e)))

  pub made_below : (r s : Flow) → LiesBelow r s → LiesBelow (made_stream f r) (made_stream f s)
  made_below r s (inl e) = inl (ap (λ (t : Flow). made_stream f t) e)
  made_below r s (inr p) =
      let left : r ≡ record { items = r.items; mark = still_open } = same_stream r (record { items = r.items; mark = still_open }) refl p.0 in
      let right : record { items = r.items ++ p.1.0; mark = s.mark } ≡ s =
      same_stream (record { items = r.items ++ p.1.0; mark = s.mark }) s p.1.1 refl in
      subst (λ (t : Flow). LiesBelow (made_stream f t) (made_stream f s)) (sym left)
      (subst (λ (t : Flow). LiesBelow (made_stream f (record { items = r.items; mark = still_open })) (made_stream f t)) right
      (longer_below r.items p.1.0 s.mark (some_or_none (damage_in f r.items))))

  calm_by : (d : Option ℕ) (xs : List Item) (m : Mark)
      → LiesBelow (record { items = xs; mark = opened_mark (mark_by d m) }) (record { items = xs; mark = mark_by d (opened_mark m) })
  calm_by None xs m = inl refl
  calm_by (Some offset) xs m = inr (refl, prefix_self xs)

  pub made_calm : (s : Flow) → LiesBelow (opened (made_stream f s)) (made_stream f (opened s))
  made_calm s = calm_by (damage_in f s.items) (made_items f s.items) s.mark

  closed_by : (d : Option ℕ) (m : Mark) → (m ≡ still_open → ⊥) → mark_by d m ≡ still_open → ⊥
  closed_by None m c e = c e
  closed_by (Some offset) m c e = cc

  pub made_closed : (s : Flow) → IsClosed s → IsClosed (made_stream f s)
  made_closed s c = closed_by (damage_in f s.items) s.mark c

  pub made_unbroken : (s : Flow) → damage_in f s.items ≡ None → IsUnbroken s → IsUnbroken (made_stream f s)
  made_unbroken s e u b = u (ap (λ (d : Option ℕ). mark_by d s.mark) (sym e) ∙ b)

  -- what broke off stays
  pub damage_stays : (r s : Flow) (offset : ℕ) → LiesBelow r s → damage_in f r.items ≡ Some offset → damage_in f s.items ≡ Some offset
  damage_stays r s offset (inl e) d = ap (λ (t : Flow). damage_in f t.items) (sym e) ∙ d
  damage_stays r s offset (inr p) d = ap (λ (xs : List Item). damage_in f xs) (sym p.1.1) ∙ damage_kept f r.items p.1.0 offset d

-- ---- valid streams

apart_same : (head : StreamHead) (x y x' y' : Item) → end_of x' ≡ end_of x → start_of y' ≡ start_of y → StartsAfter head x y → StartsAfter head x' y'
apart_same (AudioHead tb rate bits channels codec) x y x' y' e s a = rw (e, s) a
apart_same (VideoHead tb format width height sar_num sar_den) x y x' y' e s a = tt

front_all : {A : Type 0} (P : A → Type 0) (x : A) (xs : List A) → All P (x ∷ xs) → P x × All P xs
front_all P x xs a = (a zero x (omega arith), λ k d lt. a (suc k) d (omega arith))

all_cons : {A : Type 0} (P : A → Type 0) (x : A) (xs : List A) → P x → All P xs → All P (x ∷ xs)
all_cons P x xs p a zero d lt = p
all_cons P x xs p a (suc k) d lt = a k d (omega arith)

no_items : {A : Type 0} (P : A → Type 0) → All P []
no_items P k d lt = absurd (omega arith)

module _ (lane_in lane_out : Lane) (f : Item → Outcome) (c : Carries lane_in lane_out f) where
  item_for : (x y : Item) → IsItemFor lane_in x → IsMadeOf lane_out x y → HasTime x → IsItemFor lane_out y
  item_for x y i m t = record {
    fits = m.fits;
    not_negative = rw (m.starts) (i.not_negative);
    lasts = λ h. rw (m.starts, m.ends) (i.lasts t);
  }

  all_for : (xs : List Item) → All (IsItemFor lane_in) xs → All (IsItemFor lane_out) (made_items f xs)
  all_for [] a = no_items (IsItemFor lane_out)
  all_for (x ∷ xs) a =
      let h = front_all (IsItemFor lane_in) x xs a in
      by (f x) (c.made x (h.0).fits) (h.0) (all_for xs (h.1))
    where
      by : (o : Outcome) → IsOutcomeOf lane_out x o → IsItemFor lane_in x → All (IsItemFor lane_out) (made_items f xs)
          → All (IsItemFor lane_out) (and_items o (made_items f xs))
      by (gives y) m i rest = all_cons (IsItemFor lane_out) y (made_items f xs) (item_for x y i m.0 m.1) rest
      by passes m i rest = rest
      by (breaks offset) m i rest = no_items (IsItemFor lane_out)

  time_for : (xs : List Item) → All (IsItemFor lane_in) xs → All (EndsInTime lane_in) xs → All (EndsInTime lane_out) (made_items f xs)
  time_for [] a t = no_items (EndsInTime lane_out)
  time_for (x ∷ xs) a t =
      let h = front_all (IsItemFor lane_in) x xs a in
      let k = front_all (EndsInTime lane_in) x xs t in
      by (f x) (c.made x (h.0).fits) (k.0) (time_for xs (h.1) (k.1))
    where
      by : (o : Outcome) → IsOutcomeOf lane_out x o → EndsInTime lane_in x → All (EndsInTime lane_out) (made_items f xs)
          → All (EndsInTime lane_out) (and_items o (made_items f xs))
      by (gives y) m e rest =
          all_cons (EndsInTime lane_out) y (made_items f xs)
          (subst (λ (b : Fraction). IsInTime b (ticks (end_of y))) (sym c.base) (subst (λ (n : ℤ). IsInTime (base_of lane_in) (ticks n)) (sym (m.0).ends) e))
          rest
      by passes m e rest = rest
      by (breaks offset) m e rest = no_items (EndsInTime lane_out)

  follows_for : (x y x' y' : Item) → Follows lane_in x y → IsMadeOf lane_out x x' → IsMadeOf lane_out y y' → HasTime y → Follows lane_out x' y'
  follows_for x y x' y' o m n t = record {
    timed = m.timed;
    starts = λ h. rw (m.starts, n.starts) (o.starts t);
    ends = λ h. rw (m.ends, n.ends) (o.ends t);
    apart = λ h. apart_same (head_of lane_out) x y x' y' m.ends n.starts (c.apart x y (o.apart t));
  }

  -- an item before what is made of those behind it
  order_behind : (x x' : Item) (xs : List Item) → IsMadeOf lane_out x x' → All (IsItemFor lane_in) xs → InOrder lane_in (x ∷ xs)
      → InOrder lane_out (made_items f xs) → InOrder lane_out (x' ∷ made_items f xs)
  order_behind x x' [] m a o r = tt
  order_behind x x' (y ∷ ys) m a o r = by (f y) (c.made y ((front_all (IsItemFor lane_in) y ys a).0).fits) r
    where
      none_behind : (zs : List Item) → (HasTime y → ⊥) → InOrder lane_in (y ∷ zs) → InOrder lane_out (x' ∷ made_items f zs)
      none_behind [] n p = tt
      none_behind (z ∷ zs) n p = absurd (n (p.0).timed)

      by : (u : Outcome) → IsOutcomeOf lane_out y u → InOrder lane_out (and_items u (made_items f ys))
          → InOrder lane_out (x' ∷ and_items u (made_items f ys))
      by (gives y') n s = (follows_for x y x' y' o.0 m n.0 n.1, s)
      by passes n s = none_behind ys n o.1
      by (breaks offset) n s = tt

  order_tail : (x : Item) (xs : List Item) → InOrder lane_in (x ∷ xs) → InOrder lane_in xs
  order_tail x [] o = tt
  order_tail x (y ∷ ys) o = o.1

  order_for : (xs : List Item) → All (IsItemFor lane_in) xs → InOrder lane_in xs → InOrder lane_out (made_items f xs)
  order_for [] a o = tt
  order_for (x ∷ xs) a o =
      let h = front_all (IsItemFor lane_in) x xs a in
      by (f x) (c.made x (h.0).fits) (h.1) (order_for xs (h.1) (order_tail x xs o))
    where
      by : (u : Outcome) → IsOutcomeOf lane_out x u → All (IsItemFor lane_in) xs → InOrder lane_out (made_items f xs)
          → InOrder lane_out (and_items u (made_items f xs))
      by (gives x') m b r = order_behind x x' xs m.0 b o r
      by passes m b r = r
      by (breaks offset) m b r = tt

  fewer : (xs : List Item) → length (made_items f xs) ≤ length xs
  fewer [] = omega arith
  fewer (x ∷ xs) = by (f x) (fewer xs)
    where
      by : (u : Outcome) → length (made_items f xs) ≤ length xs → length (and_items u (made_items f xs)) ≤ length (x ∷ xs)
      by (gives y) le = omega arith
      by passes le = omega arith
      by (breaks offset) le = omega arith

  at_most : (a b n : ℕ) → a ≤ b → b ≤ n → a ≤ n
  at_most a b n le lt = omega arith

  -- what is valid for one lane gives what is valid for the other
  pub made_valid : (s : Flow) → IsValid lane_in s → IsValid lane_out (made_stream f s)
  made_valid s v = record {
    shape = record { each = all_for s.items v.shape.each; in_order = order_for s.items v.shape.each v.shape.in_order };
    few = at_most (length (made_items f s.items)) (length s.items) (2 ^ 40) (fewer s.items) v.few;
    in_time = time_for s.items v.shape.each v.in_time;
  }

-- ---- as the items come

module _ (f : Item → Outcome) where
  abbrev GoesOn : List Item → Mark → Flow → Type 0
  GoesOn xs m u =
      (made_stream f (joined_at xs m u) ≡ joined_at (made_items f xs) (mark_by (damage_in f xs) m) (made_stream f u))
      × (damage_in f (joined_at xs m u).items ≡ damage_in f u.items)

  goes_on_at : (xs : List Item) (m : Mark) (u : Flow) → m ≡ still_open → mark_by (damage_in f xs) m ≡ still_open → GoesOn xs m u
  goes_on_at xs whole u o p = cc
  goes_on_at xs broken u o p = cc
  goes_on_at xs still_open u o p = elim (some_or_none (damage_in f xs)) as (λ _. GoesOn xs still_open u) [
    | inl d ↦ (let clash : broken ≡ still_open = sym (ap (λ (k : Option ℕ). mark_by k still_open) d.1) ∙ p in cc)
    | inr none ↦ (
      same_stream (made_stream f (joined_at xs still_open u)) (joined_at (made_items f xs) still_open (made_stream f u))
          (items_after f xs u.items none)
          (ap (λ (k : Option ℕ). mark_by k u.mark) (damage_after f xs u.items none))
          ∙ ap (λ (k : Mark). joined_at (made_items f xs) k (made_stream f u)) (sym p),
      damage_after f xs u.items none,
    )
  ]

  -- what is made of a stream, and then of what comes behind it
  pub made_goes_on : (t u : Flow) → t.mark ≡ still_open → (made_stream f t).mark ≡ still_open
      → (made_stream f (joined t u) ≡ joined (made_stream f t) (made_stream f u)) × (damage_in f (joined t u).items ≡ damage_in f u.items)
  made_goes_on t u o p = goes_on_at t.items t.mark u o p

  pub made_broken : (s : Flow) (offset : ℕ) → damage_in f s.items ≡ Some offset → (made_stream f s).mark ≡ broken
  made_broken s offset e = ap (λ (d : Option ℕ). mark_by d s.mark) e

-- what is made item by item
pub items_make : (lane_in lane_out : Lane) (f : Item → Outcome) → Carries lane_in lane_out f → Makes lane_in lane_out (by_items f)
items_make lane_in lane_out f c = record {
  below = made_below f;
  calm = made_calm f;
  closed = made_closed f;
  valid = made_valid lane_in lane_out f c;
  unbroken = made_unbroken f;
  broken = made_broken f;
  stays = damage_stays f;
  goes_on = made_goes_on f;
}
