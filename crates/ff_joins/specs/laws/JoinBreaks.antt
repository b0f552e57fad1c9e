-- Streams side by side: streams further on give streams further on, and they keep the broken rule.
use Rattle.std.specs.Prelude.{◌≡◌, ◌≢◌, ℕ, suc, ◌+◌, ◌/◌, ◌<◌, ◌≤◌, ◌⊎◌, Bool, true, false, ◌||◌, ◌&&◌, nat_lt, nat_le, List}
use Rattle.std.specs.Prelude.{length, refl}
use Rattle.std.proofs.Common.{inl, inr, ap, sym, ◌∙◌, subst, arith}
use Rattle.std.proofs.lemmas.Bool.{and_parts, and_from, or_cases, or_left, or_right, leb-true, ltb-true}
use Rattle.std.proofs.lemmas.Bool.{le-leb, lt-ltb, false_from_ne_true}
use Rattle.std.proofs.lemmas.Nat.{le-div}
use Rattle.std.proofs.Math.Nat.{div-mul-le_self}
use mathlib.Core.List.{IsPrefix}
use Rattle.ff_stream.specs.declared.item.Item.{Item}
use Rattle.ff_stream.specs.Stream.{Mark, still_open, whole, broken, Stream, LiesBelow, is_whole, is_broken}
use Rattle.ff_stream.specs.laws.Order.{closed_below, below_items}
use Rattle.ff_filter.specs.Joins.{Flow}
use Rattle.ff_joins.specs.Tests.{all_to, any_to, all_at, all_from, any_at, any_from}
use Rattle.ff_joins.specs.Joined.{Row, rows_to, rows_in, ends_at, lost_at, mark_by, join_mark, frames_in, frames_to, joined_rows}
use Rattle.ff_joins.specs.laws.JoinedLaws.{rows_few, rows_many, rows_prefix, prefix_long, prefix_equal, frames_prefix, frames_same}

clash : (b : Bool) → b ≡ true → b ≡ false → ⊥
clash b t f = let e : true ≡ false = sym t ∙ f in cc

whole_is : (m : Mark) → is_whole m ≡ true → m ≡ whole
whole_is still_open e = cc
whole_is whole e = refl
whole_is broken e = cc

broken_is : (m : Mark) → is_broken m ≡ true → m ≡ broken
broken_is still_open e = cc
broken_is whole e = cc
broken_is broken e = refl

-- an input at which the output ends, or breaks off
pub record EndsAt (n : ℕ) (ss : ℕ → Stream Row) (p : ℕ) : Type 0 where
  pub there : p < suc n
  pub is : (ss p).mark ≡ whole
  pub fewest : (q : ℕ) → q < suc n → rows_in ss p ≤ rows_in ss q

pub record LostAt (n : ℕ) (ss : ℕ → Stream Row) (p : ℕ) : Type 0 where
  pub there : p < suc n
  pub is : (ss p).mark ≡ broken
  pub fewest : (q : ℕ) → q < suc n → (rows_in ss p < rows_in ss q) ⊎ (((ss q).mark ≡ broken) × (rows_in ss p ≤ rows_in ss q))

ends_of : (n : ℕ) (ss : ℕ → Stream Row) → any_to (suc n) (ends_at n ss) ≡ true → (p : ℕ) × EndsAt n ss p
ends_of n ss e =
    let a = any_at (suc n) (ends_at n ss) e in
    let b = and_parts (is_whole (ss a.0).mark) (all_to (suc n) (λ q. nat_le (rows_in ss a.0) (rows_in ss q))) a.2 in (
      a.0,
      record {
        there = a.1;
        is = whole_is (ss a.0).mark b.0;
        fewest =
            λ q lt. leb-true (rows_in ss a.0) (rows_in ss q) (all_at (suc n) (λ r. nat_le (rows_in ss a.0) (rows_in ss r)) b.1 q lt);
      },
    )

ends_from : (n : ℕ) (ss : ℕ → Stream Row) (p : ℕ) → EndsAt n ss p → any_to (suc n) (ends_at n ss) ≡ true
ends_from n ss p h = any_from (suc n) (ends_at n ss) p h.there
    (and_from (is_whole (ss p).mark) (all_to (suc n) (λ q. nat_le (rows_in ss p) (rows_in ss q))) (ap is_whole h.is)
    (all_from (suc n) (λ q. nat_le (rows_in ss p) (rows_in ss q)) (λ q lt. le-leb (rows_in ss p) (rows_in ss q) (h.fewest q lt))))

abbrev pub lasts : (ss : ℕ → Stream Row) → ℕ → ℕ → Bool
lasts ss p q = nat_lt (rows_in ss p) (rows_in ss q) || (is_broken (ss q).mark && nat_le (rows_in ss p) (rows_in ss q))

lost_of : (n : ℕ) (ss : ℕ → Stream Row) → any_to (suc n) (lost_at n ss) ≡ true → (p : ℕ) × LostAt n ss p
lost_of n ss e =
    let a = any_at (suc n) (lost_at n ss) e in
    let b = and_parts (is_broken (ss a.0).mark) (all_to (suc n) (lasts ss a.0)) a.2 in (
      a.0,
      record {
        there = a.1;
        is = broken_is (ss a.0).mark b.0;
        fewest = λ q lt. elim
            (or_cases (nat_lt (rows_in ss a.0) (rows_in ss q)) (is_broken (ss q).mark && nat_le (rows_in ss a.0) (rows_in ss q))
            (all_at (suc n) (lasts ss a.0) b.1 q lt)) as (λ _. (rows_in ss a.0 < rows_in ss q) ⊎ (((ss q).mark ≡ broken) × (rows_in ss a.0 ≤ rows_in ss q))) [
              | inl l ↦ inl (ltb-true (rows_in ss a.0) (rows_in ss q) l)
              | inr m ↦ (let d = and_parts (is_broken (ss q).mark) (nat_le (rows_in ss a.0) (rows_in ss q)) m in inr
                  (broken_is (ss q).mark d.0, leb-true (rows_in ss a.0) (rows_in ss q) d.1))
            ];
      },
    )

lasts_from : (ss : ℕ → Stream Row) (p q : ℕ) → (rows_in ss p < rows_in ss q) ⊎ (((ss q).mark ≡ broken) × (rows_in ss p ≤ rows_in ss q))
    → lasts ss p q ≡ true
lasts_from ss p q (inl l) = or_left (nat_lt (rows_in ss p) (rows_in ss q)) (is_broken (ss q).mark && nat_le (rows_in ss p) (rows_in ss q))
    (lt-ltb (rows_in ss p) (rows_in ss q) l)
lasts_from ss p q (inr m) = or_right (nat_lt (rows_in ss p) (rows_in ss q)) (is_broken (ss q).mark && nat_le (rows_in ss p) (rows_in ss q))
    (and_from (is_broken (ss q).mark) (nat_le (rows_in ss p) (rows_in ss q)) (ap is_broken m.0) (le-leb (rows_in ss p) (rows_in ss q) m.1))

lost_from : (n : ℕ) (ss : ℕ → Stream Row) (p : ℕ) → LostAt n ss p → any_to (suc n) (lost_at n ss) ≡ true
lost_from n ss p h = any_from (suc n) (lost_at n ss) p h.there
    (and_from (is_broken (ss p).mark) (all_to (suc n) (lasts ss p)) (ap is_broken h.is) (all_from (suc n) (lasts ss p) (λ q lt. lasts_from ss p q (h.fewest q lt))))

few_of : (n : ℕ) (ss : ℕ → Stream Row) (p : ℕ) → LostAt n ss p → (q : ℕ) → q < suc n → rows_in ss p ≤ rows_in ss q
few_of n ss p h q lt = elim (h.fewest q lt) as (λ _. rows_in ss p ≤ rows_in ss q) [ inl l ↦ omega (arith, l) | inr m ↦ m.1 ]

-- not both
not_both : (n : ℕ) (ss : ℕ → Stream Row) (p q : ℕ) → EndsAt n ss p → LostAt n ss q → ⊥
not_both n ss p q e l = elim (l.fewest p e.there) as (λ _. ⊥) [
  | inl less ↦ (let le = e.fewest q l.there in absurd (omega (arith, less, le)))
  | inr m ↦ (let c : whole ≡ broken = sym e.is ∙ m.0 in cc)
]

-- the mark
pub mark_whole : (n : ℕ) (ss : ℕ → Stream Row) (p : ℕ) → EndsAt n ss p → join_mark n ss ≡ whole
mark_whole n ss p h = ap (λ (b : Bool). mark_by b (any_to (suc n) (lost_at n ss))) (ends_from n ss p h)

pub mark_lost : (n : ℕ) (ss : ℕ → Stream Row) (p : ℕ) → LostAt n ss p → join_mark n ss ≡ broken
mark_lost n ss p h =
    let none : any_to (suc n) (ends_at n ss) ≡ false = false_from_ne_true (any_to (suc n) (ends_at n ss))
    (λ e. let a = ends_of n ss e in not_both n ss a.0 p a.1 h) in
    ap (λ (b : Bool). mark_by b (any_to (suc n) (lost_at n ss))) none ∙ ap (λ (b : Bool). mark_by false b) (lost_from n ss p h)

pub lost_here : (n : ℕ) (ss : ℕ → Stream Row) (p : ℕ) → p < suc n → (ss p).mark ≡ broken → all_to (suc n) (lasts ss p) ≡ true
    → join_mark n ss ≡ broken
lost_here n ss p lt is all = mark_lost n ss p (record {
  there = lt;
  is = is;
  fewest = λ q l. elim
      (or_cases (nat_lt (rows_in ss p) (rows_in ss q)) (is_broken (ss q).mark && nat_le (rows_in ss p) (rows_in ss q))
      (all_at (suc n) (lasts ss p) all q l)) as (λ _. (rows_in ss p < rows_in ss q) ⊎ (((ss q).mark ≡ broken) × (rows_in ss p ≤ rows_in ss q))) [
        | inl less ↦ inl (ltb-true (rows_in ss p) (rows_in ss q) less)
        | inr m ↦ (let d = and_parts (is_broken (ss q).mark) (nat_le (rows_in ss p) (rows_in ss q)) m in inr
            (broken_is (ss q).mark d.0, leb-true (rows_in ss p) (rows_in ss q) d.1))
      ];
})

pub whole_by : (n : ℕ) (ss : ℕ → Stream Row) → join_mark n ss ≡ whole → (p : ℕ) × EndsAt n ss p
whole_by n ss e = at (any_to (suc n) (ends_at n ss)) (any_to (suc n) (lost_at n ss)) refl e
  where
    at : (a b : Bool) → any_to (suc n) (ends_at n ss) ≡ a → mark_by a b ≡ whole → (p : ℕ) × EndsAt n ss p
    at true b is h = ends_of n ss is
    at false true is h = cc
    at false false is h = cc

pub lost_by : (n : ℕ) (ss : ℕ → Stream Row) → join_mark n ss ≡ broken → (p : ℕ) × LostAt n ss p
lost_by n ss e = at (any_to (suc n) (ends_at n ss)) (any_to (suc n) (lost_at n ss)) refl e
  where
    at : (a b : Bool) → any_to (suc n) (lost_at n ss) ≡ b → mark_by a b ≡ broken → (p : ℕ) × LostAt n ss p
    at true b is h = cc
    at false true is h = lost_of n ss is
    at false false is h = cc

-- streams further on ----------------------------------------------------------------------------------------------------

module _ (n : ℕ) (ss ts : ℕ → Stream Row) (above : (p : ℕ) → LiesBelow (ss p) (ts p)) where
  longer : (p : ℕ) → rows_in ss p ≤ rows_in ts p
  longer p = prefix_long (ss p).items (ts p).items (below_items (ss p) (ts p) (above p))

  stays : (p : ℕ) → (ss p).mark ≢ still_open → ts p ≡ ss p
  stays p c = sym (closed_below (ss p) (ts p) (above p) c)

  further : IsPrefix (rows_to n ss) (rows_to n ts)
  further = rows_prefix n ss ts (λ p. below_items (ss p) (ts p) (above p))

  -- where an input has closed with the fewest rows, there are no more
  no_more : (p : ℕ) → p < suc n → (ss p).mark ≢ still_open → ((q : ℕ) → q < suc n → rows_in ss p ≤ rows_in ss q) → rows_to n ts ≡ rows_to n ss
  no_more p lt c few =
      let a = rows_few n ts p lt in
      let b = rows_many n ss (rows_in ss p) few in
      let e : rows_in ts p ≡ rows_in ss p = ap (λ (s : Stream Row). length s.items) (stays p c) in
      prefix_equal (rows_to n ss) (rows_to n ts) further (omega (arith, a, b, e))

  still_ends : (p : ℕ) → EndsAt n ss p → EndsAt n ts p
  still_ends p h =
      let same = stays p (λ o. let c : whole ≡ still_open = sym h.is ∙ o in cc) in
      let e : rows_in ts p ≡ rows_in ss p = ap (λ (s : Stream Row). length s.items) same in
      record {
        there = h.there;
        is = ap (λ (s : Stream Row). s.mark) same ∙ h.is;
        fewest = λ q lt. let f = h.fewest q lt in let l =
            longer q in omega (arith, e, f, l);
      }

  still_lost : (p : ℕ) → LostAt n ss p → LostAt n ts p
  still_lost p h =
      let same = stays p (λ o. let c : broken ≡ still_open = sym h.is ∙ o in cc) in
      let e : rows_in ts p ≡ rows_in ss p = ap (λ (s : Stream Row). length s.items) same in
      record {
        there = h.there;
        is = ap (λ (s : Stream Row). s.mark) same ∙ h.is;
        fewest = λ q lt. elim (h.fewest q lt) as (λ _. (rows_in ts p < rows_in ts q) ⊎ (((ts q).mark ≡ broken) × (rows_in ts p ≤ rows_in ts q))) [
          | inl l ↦ (let m = longer q in inl (omega (arith, e, l, m)))
          | inr m ↦ inr (
            ap (λ (s : Stream Row). s.mark) (stays q (λ o. let c : broken ≡ still_open = sym m.0 ∙ o in cc)) ∙ m.0,
            let l =
                longer q in let f = m.1 in omega (arith, e, l, f),
          )
        ];
      }

  module _ (make : ℕ → List Row → Item) where
    -- where the output has closed, nothing changes
    pub closed_stays : (joined_rows n make ss).mark ≢ still_open → joined_rows n make ts ≡ joined_rows n make ss
    closed_stays c = at (join_mark n ss) refl c
      where
        both : (m : Mark) → join_mark n ss ≡ m → join_mark n ts ≡ m → rows_to n ts ≡ rows_to n ss → joined_rows n make ts ≡ joined_rows n make ss
        both m a b r =
            let was : (rows : List Row) → Mark → Flow = λ rows k. record { items = frames_to make rows (frames_in k (length rows)); mark = k } in
            ap (λ (rows : List Row). was rows (join_mark n ts)) r ∙ ap (λ (k : Mark). was (rows_to n ss) k) (b ∙ sym a)

        at : (m : Mark) → join_mark n ss ≡ m → m ≢ still_open → joined_rows n make ts ≡ joined_rows n make ss
        at still_open e o = absurd (o refl)
        at whole e o =
            let h = whole_by n ss e in
            both whole e (mark_whole n ts h.0 (still_ends h.0 h.1)) (no_more h.0 h.1.there (λ z. let k : whole ≡ still_open = sym h.1.is ∙ z in cc) h.1.fewest)
        at broken e o =
            let h = lost_by n ss e in
            both broken e (mark_lost n ts h.0 (still_lost h.0 h.1))
            (no_more h.0 h.1.there (λ z. let k : broken ≡ still_open = sym h.1.is ∙ z in cc) (few_of n ss h.0 h.1))

    floors : (m k : ℕ) (a : Mark) → m ≤ k → m / 1024 ≤ frames_in a k
    floors m k still_open le = le-div (m / 1024) k 1024 (omega arith) (let h = div-mul-le_self m 1024 in omega (arith, h, le))
    floors m k whole le = le-div (m / 1024) (k + 1023) 1024 (omega arith) (let h = div-mul-le_self m 1024 in omega (arith, h, le))
    floors m k broken le = le-div (m / 1024) k 1024 (omega arith) (let h = div-mul-le_self m 1024 in omega (arith, h, le))

    -- the whole frames come first
    first_frames : IsPrefix (frames_to make (rows_to n ss) (length (rows_to n ss) / 1024)) (joined_rows n make ts).items
    first_frames =
        let k = length (rows_to n ss) / 1024 in
        subst (λ (xs : List Item). IsPrefix xs (joined_rows n make ts).items)
        (sym (frames_same make (rows_to n ss) (rows_to n ts) k further (div-mul-le_self (length (rows_to n ss)) 1024)))
        (frames_prefix make (rows_to n ts) k (frames_in (join_mark n ts) (length (rows_to n ts)))
        (floors (length (rows_to n ss)) (length (rows_to n ts)) (join_mark n ts) (prefix_long (rows_to n ss) (rows_to n ts) further)))

    pub joined-keeps : LiesBelow (joined_rows n make ss) (joined_rows n make ts)
    joined-keeps = at (join_mark n ss) refl
      where
        at : (m : Mark) → join_mark n ss ≡ m → LiesBelow (joined_rows n make ss) (joined_rows n make ts)
        at still_open e = inr (
          e,
          subst (λ (m : Mark). IsPrefix (frames_to make (rows_to n ss) (frames_in m (length (rows_to n ss)))) (joined_rows n make ts).items)
              (sym e) first_frames,
        )
        at whole e = inl (sym (closed_stays (λ o. let c : whole ≡ still_open = sym e ∙ o in cc)))
        at broken e = inl (sym (closed_stays (λ o. let c : broken ≡ still_open = sym e ∙ o in cc)))
