-- How the mark of the output is found.
use Rattle.std.specs.Prelude.{◌≡◌, ℕ, zero, suc, ◌+◌, ◌-◌, ◌<◌, ◌≤◌, ◌⊎◌, Bool, true, false, ◌||◌, ◌&&◌, not, nat_lt, nat_le, List, [], ◌∷◌, length, refl}
use Rattle.std.proofs.Common.{inl, inr, ap, sym, ◌∙◌, subst, arith, get_or}
use Rattle.std.proofs.lemmas.Bool.{cases_lt, and_parts, and_from, or_cases, or_left, or_right, le-leb, lt-ltb, ltb-true, leb-true, not-true, not_from_false, false_from_ne_true}
use Rattle.ff_frame.specs.declared.head.StreamHead.{StreamHead}
use Rattle.ff_stream.specs.declared.item.Item.{Item}
use Rattle.ff_stream.specs.declared.item.Lane.TheVariants.{Frames}
use Rattle.ff_stream.specs.Stream.{Mark, still_open, whole, broken, is_whole, is_open, is_broken}
use Rattle.ff_filter.specs.Joins.{Flow}
use Rattle.ff_filter.specs.Made.{mark_after}
use Rattle.ff_filter.specs.Shifts.{start_ticks}
use Rattle.ff_fsync.specs.declared.input.Input.{Input}
use Rattle.ff_fsync.specs.Ranges.{all_to, any_to, all_at, all_from, any_at, any_from, none_from, fails_from, not_any}
use Rattle.ff_fsync.specs.Synced.{each_of, is_empty, ended_mark, all_ended, mark_by, begun, reached, is_known, outlasts, ends_with, is_complete, allows, may_come, goes_on, synced_mark}
use Rattle.ff_fsync.specs.laws.Rising.{some_found}
use Rattle.ff_fsync.specs.laws.SyncLaws.{clash, Allows, allows_cases, allows_from, reached_sooner, goes_on_cases, goes_on_by, broken_is, known_open}
use Rattle.ff_fsync.specs.Sides.{Side}
use Rattle.ff_fsync.specs.laws.Inputs.{items_of, begun_by, reaches, whole_if}
use Rattle.ff_fsync.specs.laws.Syncs.{sides_of, standing_of, timing_of, ended_if, is_free, IsBound, is_lost}
use Rattle.ff_fsync.proofs.Inputting.{outlasts_is, reaches_is}
use Rattle.ff_fsync.proofs.Finding.{side_there, long_sides}

-- loops over tests
below_more : (p q : ℕ) → q < p + 1 → (q ≡ p) ⊎ (q < p)
below_more p q lt = elim (cases_lt q p) as (λ _. (q ≡ p) ⊎ (q < p)) [ inl l ↦ inr l | inr m ↦ inl (omega (arith, m, lt)) ]

pub all_more : (f : ℕ → Bool) (p : ℕ) (b : Bool) → all_to p f ≡ true → f p ≡ b → b ≡ true → all_to (p + 1) f ≡ true
all_more f p b all e t = all_from (p + 1) f (λ q l. elim (below_more p q l) as (λ _. f q ≡ true) [ inl same ↦ subst (λ r. f r ≡ true) (sym same) (e ∙ t) | inr less ↦ all_at p f all q less ])

pub all_fails : (f : ℕ → Bool) (n p : ℕ) (b : Bool) → p < n → f p ≡ b → b ≡ false → false ≡ all_to n f
all_fails f n p b lt e t = sym (fails_from n f p lt (e ∙ t))

pub any_more : (f : ℕ → Bool) (p : ℕ) (b : Bool) → any_to p f ≡ false → f p ≡ b → b ≡ false → any_to (p + 1) f ≡ false
any_more f p b none e t = none_from (p + 1) f (λ q l. elim (below_more p q l) as (λ _. f q ≡ false) [ inl same ↦ subst (λ r. f r ≡ false) (sym same) (e ∙ t) | inr less ↦ not_any p f none q less ])

pub any_found : (f : ℕ → Bool) (n p : ℕ) (b : Bool) → p < n → f p ≡ b → b ≡ true → true ≡ any_to n f
any_found f n p b lt e t = sym (any_from n f p lt (e ∙ t))

mark_if : (b : Bool) (s : Flow) (ss : ℕ → Flow) (p : ℕ) → ss p ≡ s → is_whole (ended_if b ss p).mark ≡ whole_if b s.mark
mark_if true s ss p e = ap (λ (r : Flow). is_whole (ended_mark r.mark)) e ∙ at s.mark
  where
    at : (m : Mark) → is_whole (ended_mark m) ≡ whole_if true m
    at still_open = refl
    at whole = refl
    at broken = refl
mark_if false s ss p e = ap (λ (r : Flow). is_whole r.mark) e ∙ at (is_whole s.mark)
  where
    at : (b : Bool) → b ≡ (b || false)
    at true = refl
    at false = refl

items_if : (b : Bool) (ss : ℕ → Flow) (p : ℕ) → (ended_if b ss p).items ≡ (ss p).items
items_if true ss p = refl
items_if false ss p = refl

module _ (head : StreamHead) (shortest : Bool) (is : List Input) where
  stands : (p : ℕ) (i : Input) → p < length is → i ≡ get_or is p i → standing_of head is p ≡ record { items = items_of i.queue.items; mark = mark_after i.after }
  stands p i lt e = ap (λ (s : Side). let r : Flow = record { items = s.waits; mark = mark_after s.after } in r) (side_there (Frames head) is p i lt e)

  pub whole_at : (b : Bool) (p : ℕ) (i : Input) → p < length is → i ≡ get_or is p i → is_whole (ended_if b (standing_of head is) p).mark ≡ whole_if b (mark_after i.after)
  whole_at b p i lt e = mark_if b (record { items = items_of i.queue.items; mark = mark_after i.after }) (standing_of head is) p (stands p i lt e)

  pub broken_at : (p : ℕ) (i : Input) → p < length is → i ≡ get_or is p i → is_broken (standing_of head is p).mark ≡ is_broken (mark_after i.after)
  broken_at p i lt e = ap (λ (s : Flow). is_broken s.mark) (stands p i lt e)

  pub behind_at : (t p : ℕ) (i : Input) → p < length is → i ≡ get_or is p i → (is_open (standing_of head is p).mark && not (reached (timing_of shortest is) (standing_of head is) t p)) ≡ (is_open (mark_after i.after) && not (reaches (items_of i.queue.items) t))
  behind_at t p i lt e = ap (λ (s : Flow). is_open s.mark && not (reaches s.items t)) (stands p i lt e)

  pub allows_there : (t p : ℕ) (i : Input) → p < length is → i ≡ get_or is p i → allows (timing_of shortest is) (standing_of head is) t p
      ≡ ((begun_by (items_of i.queue.items) t && (reaches (items_of i.queue.items) t || (is_whole (mark_after i.after) && not shortest))) || (is_open (mark_after i.after) && (is_empty (items_of i.queue.items) || begun_by (items_of i.queue.items) t)))
  allows_there t p i lt e = ap (λ (s : Flow). (begun_by s.items t && (reaches s.items t || (is_whole s.mark && not shortest))) || (is_open s.mark && (is_empty s.items || begun_by s.items t))) (stands p i lt e)

  free_at : (t p : ℕ) (i : Input) → p < length is → i ≡ get_or is p i → is_free head shortest is t p ≡ (is_open (mark_after i.after) || (reaches (items_of i.queue.items) t || (is_whole (mark_after i.after) && not shortest)))
  free_at t p i lt e = ap (λ (s : Flow). is_open s.mark || (reaches s.items t || (is_whole s.mark && not shortest))) (stands p i lt e)

  outlasts_there : (b : Bool) (p q : ℕ) (i j : Input) → p < length is → i ≡ get_or is p i → q < length is → j ≡ get_or is q j → outlasts (timing_of shortest is) (ended_if b (standing_of head is)) p q ≡ nat_le i.next j.next
  outlasts_there b p q i j lt e lq f =
      let xs = items_if b (standing_of head is) p ∙ ap (λ (s : Flow). s.items) (stands p i lt e) in
      let ys = items_if b (standing_of head is) q ∙ ap (λ (s : Flow). s.items) (stands q j lq f) in
      ap (λ (zs : List Item). each_of (λ x. reaches (ended_if b (standing_of head is) q).items (start_ticks x)) zs) xs
      ∙ (ap (λ (zs : List Item). each_of (λ x. reaches zs (start_ticks x)) (items_of i.queue.items)) ys
      ∙ outlasts_is (items_of i.queue.items) (items_of j.queue.items) i.next j.next i.filled j.filled)

  pub outlast_at : (b : Bool) (p q : ℕ) (i j : Input) → p < length is → i ≡ get_or is p i → q < length is → j ≡ get_or is q j
      → (is_whole (ended_if b (standing_of head is) q).mark || outlasts (timing_of shortest is) (ended_if b (standing_of head is)) p q) ≡ (whole_if b (mark_after j.after) || nat_le i.next j.next)
  outlast_at b p q i j lt e lq f = rw (whole_at b q j lq f, outlasts_there b p q i j lt e lq f) refl

  pub ends_there : (b r : Bool) (p : ℕ) (i : Input) → p < length is → i ≡ get_or is p i
      → r ≡ all_to (length is) (λ q. is_whole (ended_if b (standing_of head is) q).mark || outlasts (timing_of shortest is) (ended_if b (standing_of head is)) p q)
      → ((whole_if b (mark_after i.after) && (shortest || is_empty (items_of i.queue.items))) && r) ≡ ends_with (timing_of shortest is) (ended_if b (standing_of head is)) p
  ends_there b r p i lt e o =
      let here : is_empty (ended_if b (standing_of head is) p).items ≡ is_empty (items_of i.queue.items) = ap (λ (xs : List Item). is_empty xs) (items_if b (standing_of head is) p ∙ ap (λ (s : Flow). s.items) (stands p i lt e)) in
      let all : all_to (length (sides_of is)) (λ q. is_whole (ended_if b (standing_of head is) q).mark || outlasts (timing_of shortest is) (ended_if b (standing_of head is)) p q) ≡ r =
      ap (λ n. all_to n (λ q. is_whole (ended_if b (standing_of head is) q).mark || outlasts (timing_of shortest is) (ended_if b (standing_of head is)) p q)) (long_sides is) ∙ sym o in
      sym (rw (whole_at b p i lt e, here, all) (sym (and_assoc (whole_if b (mark_after i.after)) (shortest || is_empty (items_of i.queue.items)) r)))
    where
      and_assoc : (x y z : Bool) → ((x && y) && z) ≡ (x && (y && z))
      and_assoc true y z = refl
      and_assoc false y z = refl

  pub complete_there : (b : Bool) (x y : Bool) → x ≡ all_to (length is) (λ p. is_whole (ended_if b (standing_of head is) p).mark) → y ≡ any_to (length is) (ends_with (timing_of shortest is) (ended_if b (standing_of head is))) → (x || y) ≡ is_complete (timing_of shortest is) (ended_if b (standing_of head is))
  complete_there b x y e f =
      let all : ℕ → Bool = λ p. is_whole (ended_if b (standing_of head is) p).mark in
      let some : ℕ → Bool = ends_with (timing_of shortest is) (ended_if b (standing_of head is)) in
      sym (ap (λ n. all_to n all || any_to n some) (long_sides is) ∙ (ap (λ c. c || any_to (length is) some) (sym e) ∙ ap (λ c. x || c) (sym f)))

  pub bound_more : (p bound least : ℕ) (i : Input) → IsBound head shortest is p bound → p < length is → i ≡ get_or is p i
      → ((t : ℕ) → nat_lt t least ≡ (nat_lt t bound && (is_open (mark_after i.after) || (reaches (items_of i.queue.items) t || (is_whole (mark_after i.after) && not shortest))))) → IsBound head shortest is (p + 1) least
  bound_more p bound least i h lt e b t small =
      same_bool (all_to (p + 1) (is_free head shortest is t)) (nat_lt t least)
      (λ a. b t ∙ and_from _ _ (sym (h t small) ∙ all_from p (is_free head shortest is t) (λ q l. all_at (p + 1) (is_free head shortest is t) a q (omega (arith, l)))) (sym (free_at t p i lt e) ∙ all_at (p + 1) (is_free head shortest is t) a p (omega arith)))
      (λ a. let c = and_parts (nat_lt t bound) (is_open (mark_after i.after) || (reaches (items_of i.queue.items) t || (is_whole (mark_after i.after) && not shortest))) (sym (b t) ∙ a) in
      all_more (is_free head shortest is t) p _ (h t small ∙ c.0) (free_at t p i lt e) c.1)
    where
      same_bool : (a b : Bool) → (a ≡ true → b ≡ true) → (b ≡ true → a ≡ true) → a ≡ b
      same_bool true b f g = sym (f refl)
      same_bool false true f g = g refl
      same_bool false false f g = refl

  pub bound_none : IsBound head shortest is 0 18446744073709551615
  bound_none t small = sym (lt-ltb t 18446744073709551615 small)

  -- some input broke off, and binds
  lost_input : is_lost head is ≡ true → (p : ℕ) × (p < length (sides_of is)) × (is_broken (standing_of head is p).mark ≡ true)
  lost_input l = let s = any_at (length is) (λ p. is_broken (standing_of head is p).mark) l in (s.0, (let e = long_sides is in let b = s.1 in omega (arith, b, e)), s.2)

  allows_free : (t p : ℕ) → allows (timing_of shortest is) (standing_of head is) t p ≡ true → is_free head shortest is t p ≡ true
  allows_free t p a = elim (allows_cases (timing_of shortest is) (standing_of head is) t p a) as (λ _. is_free head shortest is t p ≡ true) [
    | inl r ↦ or_right _ _ ((and_parts (begun (timing_of shortest is) (standing_of head is) t p) (is_known (timing_of shortest is) (standing_of head is) t p) r).1)
    | inr o ↦ or_left _ _ o.0
  ]

  near : is_lost head is ≡ true → (t : ℕ) → may_come (timing_of shortest is) (standing_of head is) t ≡ true → t < 18446744073709551615
  near l t m = let s = lost_input l in let k = timing_of shortest is in
      let all = all_at (length (sides_of is)) (allows k (standing_of head is) t) ((and_parts (any_to (length (sides_of is)) (λ p. is_open (standing_of head is p).mark && not (reached k (standing_of head is) t p))) (all_to (length (sides_of is)) (allows k (standing_of head is) t)) m).1) s.0 s.1 in
      let b : (standing_of head is s.0).mark ≡ broken = broken_is (standing_of head is s.0).mark s.2 in
      let known : is_known k (standing_of head is) t s.0 ≡ true = elim (or_cases (is_open (standing_of head is s.0).mark) (is_known k (standing_of head is) t s.0) (allows_free t s.0 all)) as (λ _. is_known k (standing_of head is) t s.0 ≡ true) [ inl o ↦ clash (is_open (standing_of head is s.0).mark) o (ap is_open b) | inr n ↦ n ] in
      let r = known_open k (standing_of head is) t s.0 known (ap is_whole b) in
      near_by is s.0 t r
    where
      near_by : (js : List Input) (p t : ℕ) → reached (timing_of shortest js) (standing_of head js) t p ≡ true → t < 18446744073709551615
      near_by [] p t r = cc
      near_by (j ∷ js) zero t r = let l = ltb-true t j.next (reaches_is (items_of j.queue.items) j.next t j.filled ∙ r) in let n = j.near in omega (arith, l, n)
      near_by (j ∷ js) (suc p) t r = near_by js p t r

  -- what may come at a time may come at the last one that is free
  later_too : (t u : ℕ) → t ≤ u → may_come (timing_of shortest is) (standing_of head is) t ≡ true → all_to (length is) (is_free head shortest is u) ≡ true → may_come (timing_of shortest is) (standing_of head is) u ≡ true
  later_too t u le m f =
      let k = timing_of shortest is in
      let ss : ℕ → Flow = standing_of head is in
      let n = length (sides_of is) in
      let b = and_parts (any_to n (λ p. is_open (ss p).mark && not (reached k ss t p))) (all_to n (allows k ss t)) m in
      let s = any_at n (λ p. is_open (ss p).mark && not (reached k ss t p)) b.0 in
      let o = and_parts (is_open (ss s.0).mark) (not (reached k ss t s.0)) s.2 in
      let r : reached k ss u s.0 ≡ false = false_from_ne_true (reached k ss u s.0) (λ x. clash (reached k ss t s.0) (reached_sooner k ss u t s.0 le x) (not-true (reached k ss t s.0) o.1)) in
      and_from _ _ (any_from n (λ p. is_open (ss p).mark && not (reached k ss u p)) s.0 s.1 (and_from _ _ o.0 (not_from_false (reached k ss u s.0) r)))
      (all_from n (allows k ss u) (λ p l. allows_from k ss u p (at p (allows_cases k ss t p (all_at n (allows k ss t) b.1 p l)) (or_cases _ _ (all_at (length is) (is_free head shortest is u) f p (let e = long_sides is in omega (arith, l, e)))))))
    where
      later : (p : ℕ) → begun (timing_of shortest is) (standing_of head is) t p ≡ true → begun (timing_of shortest is) (standing_of head is) u p ≡ true
      later p e = some_found (λ x. nat_le (start_ticks x) t) (λ x. nat_le (start_ticks x) u) (standing_of head is p).items (λ x b. le-leb (start_ticks x) u (let l = leb-true (start_ticks x) t b in omega (arith, l, le))) e

      at : (p : ℕ) → Allows (timing_of shortest is) (standing_of head is) t p → (is_open (standing_of head is p).mark ≡ true) ⊎ (is_known (timing_of shortest is) (standing_of head is) u p ≡ true) → Allows (timing_of shortest is) (standing_of head is) u p
      at p (inl r) (inl o) = inr (o, inr (later p ((and_parts (begun (timing_of shortest is) (standing_of head is) t p) (is_known (timing_of shortest is) (standing_of head is) t p) r).0)))
      at p (inl r) (inr n) = inl (and_from _ _ (later p ((and_parts (begun (timing_of shortest is) (standing_of head is) t p) (is_known (timing_of shortest is) (standing_of head is) t p) r).0)) n)
      at p (inr a) c = inr (a.0, elim (a.1) as (λ _. (is_empty (standing_of head is p).items ≡ true) ⊎ (begun (timing_of shortest is) (standing_of head is) u p ≡ true)) [ inl z ↦ inl z | inr e ↦ inr (later p e) ])

  -- the last free time decides
  pub goes_on_ended : is_complete (timing_of shortest is) (ended_if true (standing_of head is)) ≡ true → true ≡ goes_on (timing_of shortest is) (standing_of head is)
  goes_on_ended e = sym (or_left _ _ e)

  pub goes_on_free : (bound : ℕ) (x y : Bool) → is_lost head is ≡ true → is_complete (timing_of shortest is) (ended_if true (standing_of head is)) ≡ false → IsBound head shortest is (length is) bound → 0 < bound → bound < 18446744073709551616
      → x ≡ any_to (length is) (λ p. is_open (standing_of head is p).mark && not (reached (timing_of shortest is) (standing_of head is) (bound - 1) p)) → y ≡ all_to (length is) (allows (timing_of shortest is) (standing_of head is) (bound - 1))
      → (x && y) ≡ goes_on (timing_of shortest is) (standing_of head is)
  goes_on_free bound x y l c b some small ex ey =
      let k = timing_of shortest is in
      let ss : ℕ → Flow = standing_of head is in
      let s = lost_input l in
      let here : (x && y) ≡ may_come k ss (bound - 1) = rw (ex, ey) (sym (rw (long_sides is) refl)) in
      here ∙ same_bool (may_come k ss (bound - 1)) (goes_on k ss)
      (λ m. goes_on_by k ss (bound - 1) s.0 s.1 s.2 m)
      (λ g. elim (goes_on_cases k ss g) as (λ _. may_come k ss (bound - 1) ≡ true) [
        | inl e ↦ clash (is_complete k (all_ended ss)) e c
        | inr f ↦ (
            let n = near l f.0 f.1 in
            let free : all_to (length is) (is_free head shortest is f.0) ≡ true = all_from (length is) (is_free head shortest is f.0) (λ p lt. allows_free f.0 p (all_at (length (sides_of is)) (allows k ss f.0) ((and_parts (any_to (length (sides_of is)) (λ p. is_open (ss p).mark && not (reached k ss f.0 p))) (all_to (length (sides_of is)) (allows k ss f.0)) f.1).1) p (let e = long_sides is in omega (arith, lt, e)))) in
            let less = ltb-true f.0 bound (sym (b f.0 n) ∙ free) in
            later_too f.0 (bound - 1) (omega (arith, less)) f.1 (b (bound - 1) (omega (arith, some, small)) ∙ lt-ltb (bound - 1) bound (omega (arith, some)))
            )
      ])
    where
      same_bool : (a b : Bool) → (a ≡ true → b ≡ true) → (b ≡ true → a ≡ true) → a ≡ b
      same_bool true b f g = sym (f refl)
      same_bool false true f g = g refl
      same_bool false false f g = refl

  pub goes_on_not : (bound : ℕ) → is_lost head is ≡ true → is_complete (timing_of shortest is) (ended_if true (standing_of head is)) ≡ false → IsBound head shortest is (length is) bound → bound ≡ 0 → false ≡ goes_on (timing_of shortest is) (standing_of head is)
  goes_on_not bound l c b z =
      let k = timing_of shortest is in
      let ss : ℕ → Flow = standing_of head is in
      sym (false_from_ne_true (goes_on k ss) (λ g. elim (goes_on_cases k ss g) as (λ _. ⊥) [
        | inl e ↦ clash (is_complete k (all_ended ss)) e c
        | inr f ↦ (
            let n = near l f.0 f.1 in
            let free : all_to (length is) (is_free head shortest is f.0) ≡ true = all_from (length is) (is_free head shortest is f.0) (λ p lt. allows_free f.0 p (all_at (length (sides_of is)) (allows k ss f.0) ((and_parts (any_to (length (sides_of is)) (λ p. is_open (ss p).mark && not (reached k ss f.0 p))) (all_to (length (sides_of is)) (allows k ss f.0)) f.1).1) p (let e = long_sides is in omega (arith, lt, e)))) in
            let less = ltb-true f.0 bound (sym (b f.0 n) ∙ free) in
            omega (arith, less, z)
            )
      ]))

  lost_is : any_to (length (sides_of is)) (λ p. is_broken (standing_of head is p).mark) ≡ is_lost head is
  lost_is = ap (λ n. any_to n (λ p. is_broken (standing_of head is p).mark)) (long_sides is)

  pub mark_complete : is_complete (timing_of shortest is) (ended_if false (standing_of head is)) ≡ true → whole ≡ synced_mark (timing_of shortest is) (standing_of head is)
  mark_complete e = sym (ap (λ w. mark_by w (any_to (length (sides_of is)) (λ p. is_broken (standing_of head is p).mark)) (goes_on (timing_of shortest is) (standing_of head is))) e)

  pub mark_unbroken : is_complete (timing_of shortest is) (ended_if false (standing_of head is)) ≡ false → is_lost head is ≡ false → still_open ≡ synced_mark (timing_of shortest is) (standing_of head is)
  mark_unbroken e l = sym (rw (e, lost_is, l) refl)

  pub mark_lost : (g : Bool) → is_complete (timing_of shortest is) (ended_if false (standing_of head is)) ≡ false → is_lost head is ≡ true → g ≡ goes_on (timing_of shortest is) (standing_of head is) → mark_by false true g ≡ synced_mark (timing_of shortest is) (standing_of head is)
  mark_lost g e l h = sym (rw (e, lost_is, l, ← h) refl)
