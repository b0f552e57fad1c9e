-- How the time of what is to be shown next is found.
use Rattle.std.specs.Prelude.{◌≡◌, ℕ, zero, suc, ◌+◌, ◌<◌, ◌≤◌, ◌^◌, ◌⊎◌, Bool, true, false, ◌||◌, ◌&&◌, not, cond, nat_lt, nat_le, Option, None, Some, IfSome, List, [], ◌∷◌, length, refl}
use Rattle.std.proofs.Common.{inl, inr, ap, sym, ◌∙◌, subst, arith, get_or}
use Rattle.std.proofs.lemmas.Bool.{cases_lt, cases_order, and_from, and_left, and_right, or_cases, or_left, or_right, le-leb, lt-leb, lt-ltb, le-ltb, leb-true, false_from_ne_true}
use Rattle.ff_frame.specs.declared.video.VFrame.{VFrame}
use Rattle.ff_frame.specs.declared.head.StreamHead.{StreamHead}
use Rattle.ff_stream.specs.declared.item.Lane.{Lane}
use Rattle.ff_stream.specs.declared.item.Lane.TheVariants.{Frames}
use Rattle.ff_stream.specs.Stream.{is_whole}
use Rattle.ff_filter.specs.Made.{mark_after}
use Rattle.ff_filter.specs.Shifts.{start_ticks}
use Rattle.ff_fsync.specs.declared.input.Input.{Input}
use Rattle.ff_fsync.specs.Ranges.{all_to, all_at, all_from, any_from, none_from, not_all, fails_from}
use Rattle.ff_fsync.specs.Synced.{starts, begun, reached, is_known, is_ready, is_shown}
use Rattle.ff_fsync.specs.laws.Rising.{some_found}
use Rattle.ff_fsync.specs.laws.SyncLaws.{clash, reached_sooner}
use Rattle.ff_fsync.specs.Sides.{Side, side_at}
use Rattle.ff_fsync.specs.laws.Inputs.{items_of, starts_at, begun_by, reaches, IsNextIn}
use Rattle.ff_fsync.specs.laws.Syncs.{side_of, sides_of, standing_of, timing_of, IsStart, NoneFrom, IsLeast, LeastOf, IsDue, sooner_of}

pub side_there : (lane : Lane) (is : List Input) (p : ℕ) (i : Input) → p < length is → i ≡ get_or is p i → side_at lane (sides_of is) p ≡ side_of i
side_there lane [] p i lt e = absurd (omega (arith, lt))
side_there lane (j ∷ is) zero i lt e = ap (λ (x : Input). side_of x) (sym e)
side_there lane (j ∷ is) (suc p) i lt e = side_there lane is p i (omega (arith, lt)) e

pub long_sides : (is : List Input) → length (sides_of is) ≡ length is
long_sides [] = refl
long_sides (i ∷ is) = let e = long_sides is in omega (arith, e)

below_more : (p q : ℕ) → q < p + 1 → (q ≡ p) ⊎ (q < p)
below_more p q lt = elim (cases_order q p) as (λ _. (q ≡ p) ⊎ (q < p)) [
  | inl e ↦ inl e
  | inr (inl l) ↦ inr l
  | inr (inr m) ↦ absurd (omega (arith, m, lt))
]

module _ (head : StreamHead) (shortest : Bool) (is : List Input) where
  -- what is asked of an input is asked of what waits there
  begun_at : (p : ℕ) (i : Input) → p < length is → i ≡ get_or is p i → (u : ℕ) → begun (timing_of shortest is) (standing_of head is) u p ≡ begun_by (items_of i.queue.items) u
  begun_at p i lt e u = ap (λ (s : Side). begun_by s.waits u) (side_there (Frames head) is p i lt e)

  starts_there : (p : ℕ) (i : Input) → p < length is → i ≡ get_or is p i → (u : ℕ) → starts (timing_of shortest is) (standing_of head is) u p ≡ starts_at (items_of i.queue.items) u
  starts_there p i lt e u = ap (λ (s : Side). starts_at s.waits u) (side_there (Frames head) is p i lt e)

  pub known_at : (p : ℕ) (i : Input) → p < length is → i ≡ get_or is p i → (u : ℕ) → is_known (timing_of shortest is) (standing_of head is) u p ≡ (reaches (items_of i.queue.items) u || (is_whole (mark_after i.after) && not shortest))
  known_at p i lt e u = ap (λ (s : Side). reaches s.waits u || (is_whole (mark_after s.after) && not shortest)) (side_there (Frames head) is p i lt e)

  not_begun : (u p : ℕ) → p < length is → begun (timing_of shortest is) (standing_of head is) u p ≡ false → is_shown (timing_of shortest is) (standing_of head is) u ≡ false
  not_begun u p lt b = and_right _ _ (fails_from (length (sides_of is)) (is_ready (timing_of shortest is) (standing_of head is) u) p (let e = long_sides is in omega (arith, lt, e)) (and_left _ _ b))

  pub start_none : (from p : ℕ) (i : Input) → p < length is → i ≡ get_or is p i → i.queue.items ≡ [] → NoneFrom head shortest is from
  start_none from p i lt e n u le = not_begun u p lt (begun_at p i lt e u ∙ ap (λ (fs : List VFrame). begun_by (items_of fs) u) n)

  begun_later : (u v p : ℕ) → u ≤ v → begun (timing_of shortest is) (standing_of head is) u p ≡ true → begun (timing_of shortest is) (standing_of head is) v p ≡ true
  begun_later u v p le e = some_found (λ x. nat_le (start_ticks x) u) (λ x. nat_le (start_ticks x) v) (standing_of head is p).items (λ x b. le-leb (start_ticks x) v (let l = leb-true (start_ticks x) u b in omega (arith, l, le))) e

  pub start_keeps : (from lo p s : ℕ) (i : Input) → IsStart head shortest is from lo p → p < length is → i ≡ get_or is p i → ((u : ℕ) → begun_by (items_of i.queue.items) u ≡ nat_le s u) → s ≤ lo → IsStart head shortest is from lo (p + 1)
  start_keeps from lo p s i st lt e b le = record {
    late = st.late;
    all = λ q l. elim (below_more p q l) as (λ _. begun (timing_of shortest is) (standing_of head is) lo q ≡ true) [
      | inl same ↦ subst (λ r. begun (timing_of shortest is) (standing_of head is) lo r ≡ true) (sym same) (begun_at p i lt e lo ∙ (b lo ∙ le-leb s lo le))
      | inr less ↦ st.all q less
    ];
    none = st.none;
  }

  pub start_moves : (from lo p s : ℕ) (i : Input) → IsStart head shortest is from lo p → p < length is → i ≡ get_or is p i → ((u : ℕ) → begun_by (items_of i.queue.items) u ≡ nat_le s u) → lo < s → IsStart head shortest is from s (p + 1)
  start_moves from lo p s i st lt e b less = record {
    late = let l = st.late in omega (arith, l, less);
    all = λ q l. elim (below_more p q l) as (λ _. begun (timing_of shortest is) (standing_of head is) s q ≡ true) [
      | inl same ↦ subst (λ r. begun (timing_of shortest is) (standing_of head is) s r ≡ true) (sym same) (begun_at p i lt e s ∙ (b s ∙ le-leb s s (omega arith)))
      | inr l ↦ begun_later lo s q (omega (arith, less)) (st.all q l)
    ];
    none = λ u a c. not_begun u p lt (begun_at p i lt e u ∙ (b u ∙ lt-leb s u c));
  }

  pub start_more : (from lo p s : ℕ) (i : Input) → IsStart head shortest is from lo p → p < length is → i ≡ get_or is p i → ((u : ℕ) → begun_by (items_of i.queue.items) u ≡ nat_le s u) → IsStart head shortest is from (cond (nat_lt lo s) s lo) (p + 1)
  start_more from lo p s i st lt e b = elim (cases_lt lo s) as (λ _. IsStart head shortest is from (cond (nat_lt lo s) s lo) (p + 1)) [
    | inl less ↦ rw (lt-ltb lo s less) (start_moves from lo p s i st lt e b less)
    | inr ge ↦ rw (le-ltb lo s ge) (start_keeps from lo p s i st lt e b ge)
  ]

  pub known_more : (t p : ℕ) (i : Input) → all_to p (is_known (timing_of shortest is) (standing_of head is) t) ≡ true → p < length is → i ≡ get_or is p i
      → (reaches (items_of i.queue.items) t || (is_whole (mark_after i.after) && not shortest)) ≡ true → all_to (p + 1) (is_known (timing_of shortest is) (standing_of head is) t) ≡ true
  known_more t p i all lt e k = all_from (p + 1) (is_known (timing_of shortest is) (standing_of head is) t) (λ q l. elim (below_more p q l) as (λ _. is_known (timing_of shortest is) (standing_of head is) t q ≡ true) [
    | inl same ↦ subst (λ r. is_known (timing_of shortest is) (standing_of head is) t r ≡ true) (sym same) (known_at p i lt e t ∙ k)
    | inr less ↦ all_at p (is_known (timing_of shortest is) (standing_of head is) t) all q less
  ])

  pub known_fails : (t p : ℕ) (i : Input) → p < length is → i ≡ get_or is p i → (reaches (items_of i.queue.items) t || (is_whole (mark_after i.after) && not shortest)) ≡ false → false ≡ all_to (length is) (is_known (timing_of shortest is) (standing_of head is) t)
  known_fails t p i lt e k = sym (fails_from (length is) (is_known (timing_of shortest is) (standing_of head is) t) p lt (known_at p i lt e t ∙ k))

  pub least_more : (lo p : ℕ) (i : Input) (a b : Option ℕ) → LeastOf head shortest is lo p a → p < length is → i ≡ get_or is p i → IsNextIn (items_of i.queue.items) lo b → IfSome b (λ t. t < 2 ^ 63) → LeastOf head shortest is lo (p + 1) (sooner_of a b)
  least_more lo p i None None h lt e n near = λ u le q l. elim (below_more p q l) as (λ _. starts (timing_of shortest is) (standing_of head is) u q ≡ false) [
    | inl same ↦ subst (λ r. starts (timing_of shortest is) (standing_of head is) u r ≡ false) (sym same) (starts_there p i lt e u ∙ n u le)
    | inr less ↦ h u le q less
  ]
  least_more lo p i None (Some t) h lt e n near = record {
    late = n.late;
    near = near;
    some = (p, omega arith, starts_there p i lt e t ∙ n.here);
    none = λ u a c q l. elim (below_more p q l) as (λ _. starts (timing_of shortest is) (standing_of head is) u q ≡ false) [
      | inl same ↦ subst (λ r. starts (timing_of shortest is) (standing_of head is) u r ≡ false) (sym same) (starts_there p i lt e u ∙ n.none u a c)
      | inr less ↦ h u a q less
    ];
  }
  least_more lo p i (Some s) None h lt e n near = record {
    late = h.late;
    near = h.near;
    some = (h.some.0, omega (arith, h.some.1), h.some.2);
    none = λ u a c q l. elim (below_more p q l) as (λ _. starts (timing_of shortest is) (standing_of head is) u q ≡ false) [
      | inl same ↦ subst (λ r. starts (timing_of shortest is) (standing_of head is) u r ≡ false) (sym same) (starts_there p i lt e u ∙ n u a)
      | inr less ↦ h.none u a c q less
    ];
  }
  least_more lo p i (Some s) (Some t) h lt e n near = elim (cases_lt t s) as (λ _. LeastOf head shortest is lo (p + 1) (cond (nat_lt t s) (Some t) (Some s))) [
    | inl sooner ↦ rw (lt-ltb t s sooner) (record {
      late = n.late;
      near = near;
      some = (p, omega arith, starts_there p i lt e t ∙ n.here);
      none = λ u a c q l. elim (below_more p q l) as (λ _. starts (timing_of shortest is) (standing_of head is) u q ≡ false) [
        | inl same ↦ subst (λ r. starts (timing_of shortest is) (standing_of head is) u r ≡ false) (sym same) (starts_there p i lt e u ∙ n.none u a c)
        | inr less ↦ h.none u a (omega (arith, c, sooner)) q less
      ];
    })
    | inr later ↦ rw (le-ltb t s later) (record {
      late = h.late;
      near = h.near;
      some = (h.some.0, omega (arith, h.some.1), h.some.2);
      none = λ u a c q l. elim (below_more p q l) as (λ _. starts (timing_of shortest is) (standing_of head is) u q ≡ false) [
        | inl same ↦ subst (λ r. starts (timing_of shortest is) (standing_of head is) u r ≡ false) (sym same) (starts_there p i lt e u ∙ n.none u a (omega (arith, c, later)))
        | inr less ↦ h.none u a c q less
      ];
    })
  ]

  known_sooner : (u v p : ℕ) → u ≤ v → is_known (timing_of shortest is) (standing_of head is) v p ≡ true → is_known (timing_of shortest is) (standing_of head is) u p ≡ true
  known_sooner u v p le e = elim (or_cases (reached (timing_of shortest is) (standing_of head is) v p) (is_whole (standing_of head is p).mark && not shortest) e) as (λ _. is_known (timing_of shortest is) (standing_of head is) u p ≡ true) [
    | inl r ↦ or_left _ _ (reached_sooner (timing_of shortest is) (standing_of head is) v u p le r)
    | inr w ↦ or_right _ _ w
  ]

  not_known : (u v : ℕ) → u ≤ v → all_to (length is) (is_known (timing_of shortest is) (standing_of head is) u) ≡ false → is_shown (timing_of shortest is) (standing_of head is) v ≡ false
  not_known u v le e =
      let f = not_all (length is) (is_known (timing_of shortest is) (standing_of head is) u) e in
      let n : is_known (timing_of shortest is) (standing_of head is) v f.0 ≡ false = false_from_ne_true (is_known (timing_of shortest is) (standing_of head is) v f.0) (λ k. clash (is_known (timing_of shortest is) (standing_of head is) u f.0) (known_sooner u v f.0 le k) f.2) in
      and_right _ _ (fails_from (length (sides_of is)) (is_ready (timing_of shortest is) (standing_of head is) v) f.0 (let e = long_sides is in let l = f.1 in omega (arith, l, e)) (and_right _ _ n))

  no_start : (u : ℕ) → ((p : ℕ) → p < length is → starts (timing_of shortest is) (standing_of head is) u p ≡ false) → is_shown (timing_of shortest is) (standing_of head is) u ≡ false
  no_start u h = and_left _ _ (none_from (length (sides_of is)) (starts (timing_of shortest is) (standing_of head is) u) (λ p l. h p (let e = long_sides is in omega (arith, l, e))))

  pub none_by_known : (from lo : ℕ) → IsStart head shortest is from lo (length is) → all_to (length is) (is_known (timing_of shortest is) (standing_of head is) lo) ≡ false → NoneFrom head shortest is from
  none_by_known from lo st e u le = elim (cases_lt u lo) as (λ _. is_shown (timing_of shortest is) (standing_of head is) u ≡ false) [ inl less ↦ st.none u le less | inr ge ↦ not_known lo u ge e ]

  pub none_by_start : (from lo : ℕ) → IsStart head shortest is from lo (length is) → LeastOf head shortest is lo (length is) None → NoneFrom head shortest is from
  none_by_start from lo st n u le = elim (cases_lt u lo) as (λ _. is_shown (timing_of shortest is) (standing_of head is) u ≡ false) [ inl less ↦ st.none u le less | inr ge ↦ no_start u (λ p l. n u ge p l) ]

  pub none_by_time : (from lo t : ℕ) → IsStart head shortest is from lo (length is) → IsLeast head shortest is lo (length is) t → all_to (length is) (is_known (timing_of shortest is) (standing_of head is) t) ≡ false → NoneFrom head shortest is from
  none_by_time from lo t st m e u le = elim (cases_lt u lo) as (λ _. is_shown (timing_of shortest is) (standing_of head is) u ≡ false) [
    | inl less ↦ st.none u le less
    | inr ge ↦ elim (cases_lt u t) as (λ _. is_shown (timing_of shortest is) (standing_of head is) u ≡ false) [ inl sooner ↦ no_start u (λ p l. m.none u ge sooner p l) | inr later ↦ not_known t u later e ]
  ]

  pub due_by : (from lo t : ℕ) → IsStart head shortest is from lo (length is) → IsLeast head shortest is lo (length is) t → all_to (length is) (is_known (timing_of shortest is) (standing_of head is) t) ≡ true
      → IsDue (timing_of shortest is) from (standing_of head is) t
  due_by from lo t st m e =
      let long = long_sides is in
      record {
        late = let a = st.late in let b = m.late in omega (arith, a, b);
        shown = and_from _ _
            (any_from (length (sides_of is)) (starts (timing_of shortest is) (standing_of head is) t) m.some.0 (let l = m.some.1 in omega (arith, l, long)) m.some.2)
            (all_from (length (sides_of is)) (is_ready (timing_of shortest is) (standing_of head is) t) (λ p l.
            and_from _ _ (begun_later lo t p m.late (st.all p (omega (arith, l, long)))) (all_at (length is) (is_known (timing_of shortest is) (standing_of head is) t) e p (omega (arith, l, long)))));
        first = λ u a b. elim (cases_lt u lo) as (λ _. is_shown (timing_of shortest is) (standing_of head is) u ≡ false) [ inl less ↦ st.none u a less | inr ge ↦ no_start u (λ p l. m.none u ge b p l) ];
      }
