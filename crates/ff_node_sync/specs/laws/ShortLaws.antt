-- The laws of shortened streams and of the machine that shortens.
use Rattle.std.specs.Prelude.{◌≡◌, ◌≢◌, ℕ, zero, suc, ◌*◌, ◌==◌, ◌<◌, ◌≤◌, ◌⊎◌, max, Bool, true, false, ◌||◌, cond, List, [], ◌∷◌, ◌++◌, length, refl}
use Rattle.std.proofs.Common.{inl, inr, ap, sym, ◌∙◌, subst, arith, append_assoc, append-nil}
use Rattle.std.proofs.Math.Nat.{mul-le-mul_right}
use Rattle.std.proofs.lemmas.Bool.{cases_Bool, cases_eq, and_from, and_parts, or_cases, or_left, or_right, lt-ltb, ltb-true}
use mathlib.Core.List.{IsPrefix}
use Rattle.ff_time.specs.Fraction.{Fraction}
use Rattle.ff_stream.specs.declared.item.Item.{Item}
use Rattle.ff_stream.specs.declared.item.Lane.{Lane}
use Rattle.ff_stream.specs.Stream.{Mark, still_open, whole, broken, LiesBelow, opened, opened_mark}
use Rattle.ff_stream.specs.Ports.{nothing, IsClosed}
use Rattle.ff_stream.specs.laws.Order.{nothing_below, opened_below, same_stream}
use Rattle.ff_stream.specs.Times.{end_ticks}
use Rattle.ff_filter.specs.declared.after.After.{After}
use Rattle.ff_filter.specs.declared.after.After.TheVariants.{More, Whole, Broke}
use Rattle.ff_filter.specs.Joins.{Flow, Ports, silence, Grows, HidesBreaks, all_opened}
use Rattle.ff_filter.specs.Made.{behind, is_over, mark_after}
use Rattle.ff_filter.specs.Shifts.{start_ticks}
use Rattle.ff_filter.specs.Views.{Settles, IsSpent, AllDone}
use Rattle.ff_node_sync.specs.declared.side.Side.{Side}
use Rattle.ff_node_sync.specs.Shortened.{Fate, Kept, Held, held_by, both, put_kept, kept_by, fate_by, fate_to, furthest, is_before}
use Rattle.ff_node_sync.specs.Lines.{Line, line_at, lines_of, lanes_of, came, bases, ends_with, marks_with, still_kept, shortest_view, view_of, reaches, stands, fate_now}
use Rattle.ff_node_sync.specs.Lines.{mark_now, is_closed, is_done, done_to, shortest_spent}

-- what wasn't decided may have come to be
abbrev pub Refines : Fate → Fate → Type 0
Refines f g = (f ≡ Held still_open) ⊎ (f ≡ g)

pub whole_left : (f : Fate) → both f (Held whole) ≡ Held whole
whole_left Kept = refl
whole_left (Held still_open) = refl
whole_left (Held whole) = refl
whole_left (Held broken) = refl

pub whole_right : (g : Fate) → both (Held whole) g ≡ Held whole
whole_right Kept = refl
whole_right (Held n) = refl

open_left : (f' g : Fate) → Refines (both (Held still_open) g) (both f' g)
open_left f' Kept = inl refl
open_left f' (Held still_open) = inl refl
open_left f' (Held whole) = inr (sym (whole_left f'))
open_left f' (Held broken) = inl refl

open_right : (f g' : Fate) → Refines (both f (Held still_open)) (both f g')
open_right Kept g' = inl refl
open_right (Held still_open) g' = inl refl
open_right (Held whole) g' = inr (sym (whole_right g'))
open_right (Held broken) g' = inl refl

pub both_refines : (f f' g g' : Fate) → Refines f f' → Refines g g' → Refines (both f g) (both f' g')
both_refines f f' g g' (inl e) (inl d) = inl (ap (λ (x : Fate). both x g) e ∙ ap (λ (x : Fate). both (Held still_open) x) d)
both_refines f f' g g' (inl e) (inr d) = subst (λ (x : Fate). Refines (both x g) (both f' g')) (sym e)
    (subst (λ (y : Fate). Refines (both (Held still_open) g) (both f' y)) d (open_left f' g))
both_refines f f' g g' (inr e) (inl d) = subst (λ (x : Fate). Refines (both f x) (both f' g')) (sym d)
    (subst (λ (y : Fate). Refines (both f (Held still_open)) (both y g')) e (open_right f g'))
both_refines f f' g g' (inr e) (inr d) = inr (ap (λ (x : Fate). both x g) e ∙ ap (λ (x : Fate). both f' x) d)

-- a stream that is open may come to reach further; another stays as it is
abbrev pub Further : ℕ → Mark → ℕ → Mark → Type 0
Further e m e' m' = ((m ≡ still_open) × (e ≤ e')) ⊎ ((e ≡ e') × (m ≡ m'))

still_before : (a : ℕ) (ta : Fraction) (e e' : ℕ) (tb : Fraction) → e ≤ e' → is_before a ta e tb ≡ true → is_before a ta e' tb ≡ true
still_before a ta e e' tb le t =
    let lt = ltb-true (a * (ta.num * tb.den)) (e * (tb.num * ta.den)) t in
    let more : e * (tb.num * ta.den) ≤ e' * (tb.num * ta.den) = mul-le-mul_right (tb.num * ta.den) le in
    lt-ltb (a * (ta.num * tb.den)) (e' * (tb.num * ta.den)) (omega (arith, lt, more))

test_refines : (b c : Bool) (m m' : Mark) → (b ≡ true → c ≡ true) → m ≡ still_open → Refines (cond b Kept (Held m)) (cond c Kept (Held m'))
test_refines true true m m' h e = inr refl
test_refines true false m m' h e = let clash : false ≡ true = h refl in cc
test_refines false c m m' h e = inl (ap Held e)

by_refines : (self : Bool) (a : ℕ) (ta tb : Fraction) (e e' : ℕ) (m m' : Mark) → Further e m e' m'
    → Refines (cond self Kept (cond (is_before a ta e tb) Kept (Held m))) (cond self Kept (cond (is_before a ta e' tb) Kept (Held m')))
by_refines true a ta tb e e' m m' f = inr refl
by_refines false a ta tb e e' m m' (inl h) = test_refines (is_before a ta e tb) (is_before a ta e' tb) m m' (λ t. still_before a ta e e' tb h.1 t) h.0
by_refines false a ta tb e e' m m' (inr h) = inr (ap (λ k. cond (is_before a ta k tb) Kept (Held m)) h.0 ∙ ap (λ n. cond (is_before a ta e' tb) Kept (Held n)) h.1)

module _ (base : ℕ → Fraction) (ends ends' : ℕ → ℕ) (marks marks' : ℕ → Mark) where
  pub fate_refines : (p n : ℕ) (x : Item) → ((q : ℕ) → q < n → Further (ends q) (marks q) (ends' q) (marks' q))
      → Refines (fate_to base ends marks p n x) (fate_to base ends' marks' p n x)
  fate_refines p zero x h = inr refl
  fate_refines p (suc n) x h = both_refines (fate_to base ends marks p n x) (fate_to base ends' marks' p n x) (fate_by base ends marks p n x)
      (fate_by base ends' marks' p n x)
      (fate_refines p n x (λ q lt. h q (omega (arith, lt)))) (by_refines (n == p) (start_ticks x) (base p) (base n) (ends n) (ends' n) (marks n) (marks' n)
      (h n (omega arith)))

cons_below : (x : Item) (t u : Flow) → LiesBelow t u → LiesBelow (put_kept Kept x t) (put_kept Kept x u)
cons_below x t u (inl e) = inl (ap (λ (s : Flow). put_kept Kept x s) e)
cons_below x t u (inr h) = inr (h.0, (h.1.0, ap (λ (xs : List Item). x ∷ xs) h.1.1))

put_same : (f : Fate) (x : Item) (t u : Flow) → LiesBelow t u → LiesBelow (put_kept f x t) (put_kept f x u)
put_same Kept x t u h = cons_below x t u h
put_same (Held m) x t u h = inl refl

put_below : (f g : Fate) (x : Item) (t u : Flow) → Refines f g → LiesBelow t u → LiesBelow (put_kept f x t) (put_kept g x u)
put_below f g x t u (inl e) h = subst (λ (k : Fate). LiesBelow (put_kept k x t) (put_kept g x u)) (sym e) (nothing_below (put_kept g x u))
put_below f g x t u (inr e) h = subst (λ (k : Fate). LiesBelow (put_kept f x t) (put_kept k x u)) e (put_same f x t u h)

kept_same : (f g : Item → Fate) → ((x : Item) → Refines (f x) (g x)) → (xs : List Item) (m : Mark) → LiesBelow (kept_by f xs m) (kept_by g xs m)
kept_same f g r [] m = inl refl
kept_same f g r (x ∷ xs) m = put_below (f x) (g x) x (kept_by f xs m) (kept_by g xs m) (r x) (kept_same f g r xs m)

kept_further : (f g : Item → Fate) → ((x : Item) → Refines (f x) (g x)) → (xs ys : List Item) (n : Mark) → IsPrefix xs ys
    → LiesBelow (kept_by f xs still_open) (kept_by g ys n)
kept_further f g r [] ys n p = nothing_below (kept_by g ys n)
kept_further f g r (x ∷ xs) [] n p = let c : x ∷ (xs ++ p.0) ≡ [] = p.1 in cc
kept_further f g r (x ∷ xs) (y ∷ ys) n p =
    let c : x ∷ (xs ++ p.0) ≡ y ∷ ys = p.1 in
    let rest : xs ++ p.0 ≡ ys = cc (c) in
    let first : x ≡ y = cc (c) in
    subst (λ (z : Item). LiesBelow (kept_by f (x ∷ xs) still_open) (kept_by g (z ∷ ys) n)) first
    (put_below (f x) (g x) x (kept_by f xs still_open) (kept_by g ys n) (r x) (kept_further f g r xs ys n (p.0, rest)))

pub kept_below : (f g : Item → Fate) → ((x : Item) → Refines (f x) (g x)) → (s t : Flow) → LiesBelow s t → LiesBelow (kept_by f s.items s.mark) (kept_by g t.items t.mark)
kept_below f g r s t (inl e) = subst (λ (u : Flow). LiesBelow (kept_by f s.items s.mark) (kept_by g u.items u.mark)) e (kept_same f g r s.items s.mark)
kept_below f g r s t (inr h) = subst (λ m. LiesBelow (kept_by f s.items m) (kept_by g t.items t.mark)) (sym h.0) (kept_further f g r s.items t.items t.mark h.1)

pub furthest-append : (e : ℕ) (xs ys : List Item) → furthest e (xs ++ ys) ≡ furthest (furthest e xs) ys
furthest-append e [] ys = refl
furthest-append e (x ∷ xs) ys = furthest-append (max e (end_ticks x)) xs ys

pub furthest-more : (e : ℕ) (xs : List Item) → e ≤ furthest e xs
furthest-more e [] = omega arith
furthest-more e (x ∷ xs) = let h = furthest-more (max e (end_ticks x)) xs in omega (arith, h)

pub flow_further : (e : ℕ) (s t : Flow) → LiesBelow s t → Further (furthest e s.items) s.mark (furthest e t.items) t.mark
flow_further e s t (inl h) = inr (ap (λ (u : Flow). furthest e u.items) h, ap (λ (u : Flow). u.mark) h)
flow_further e s t (inr h) = inl (
  h.0,
  subst (λ (xs : List Item). furthest e s.items ≤ furthest e xs) h.1.1
      (subst (λ n. furthest e s.items ≤ n) (sym (furthest-append e s.items h.1.0)) (furthest-more (furthest e s.items) h.1.0)),
)

pub behind_below : (a : After) (s t : Flow) → LiesBelow s t → LiesBelow (behind a s) (behind a t)
behind_below More s t h = h
behind_below Whole s t h = inl refl
behind_below Broke s t h = inl refl

pub waits_below : (xs : List Item) (s t : Flow) → LiesBelow s t → LiesBelow (record { items = xs ++ s.items; mark = s.mark })
    (record { items = xs ++ t.items; mark = t.mark })
waits_below xs s t (inl e) = inl (ap (λ (u : Flow). let r : Flow = record { items = xs ++ u.items; mark = u.mark } in r) e)
waits_below xs s t (inr h) = inr (h.0, (h.1.0, append_assoc xs s.items h.1.0 ∙ ap (λ (ys : List Item). xs ++ ys) h.1.1))

pub ended_below : (b : Bool) (s t : Flow) → LiesBelow s t → LiesBelow (cond b nothing s) (cond b nothing t)
ended_below true s t h = inl refl
ended_below false s t h = h

-- what was hidden is a break
abbrev pub Softer : Fate → Fate → Type 0
Softer f g = (g ≡ f) ⊎ ((f ≡ Held broken) × (g ≡ Held still_open))

abbrev pub SofterMark : Mark → Mark → Type 0
SofterMark m n = (n ≡ m) ⊎ ((m ≡ broken) × (n ≡ still_open))

soft_left : (g : Fate) → Softer (both (Held broken) g) (both (Held still_open) g)
soft_left Kept = inr (refl, refl)
soft_left (Held still_open) = inl refl
soft_left (Held whole) = inl refl
soft_left (Held broken) = inr (refl, refl)

soft_right : (f : Fate) → Softer (both f (Held broken)) (both f (Held still_open))
soft_right Kept = inr (refl, refl)
soft_right (Held still_open) = inl refl
soft_right (Held whole) = inl refl
soft_right (Held broken) = inr (refl, refl)

both_softer : (f f' g g' : Fate) → Softer f f' → Softer g g' → Softer (both f g) (both f' g')
both_softer f f' g g' (inl e) (inl d) = inl (ap (λ (x : Fate). both x g') e ∙ ap (λ (x : Fate). both f x) d)
both_softer f f' g g' (inl e) (inr d) = subst (λ (x : Fate). Softer (both f g) (both x g')) (sym e) (subst (λ (y : Fate). Softer (both f y) (both f g')) (sym d.0)
    (subst (λ (y : Fate). Softer (both f (Held broken)) (both f y)) (sym d.1) (soft_right f)))
both_softer f f' g g' (inr e) (inl d) = subst (λ (x : Fate). Softer (both f g) (both f' x)) (sym d) (subst (λ (y : Fate). Softer (both y g) (both f' g)) (sym e.0)
    (subst (λ (y : Fate). Softer (both (Held broken) g) (both y g)) (sym e.1) (soft_left g)))
both_softer f f' g g' (inr e) (inr d) = inr (
  ap (λ (x : Fate). both x g) e.0 ∙ ap (λ (x : Fate). both (Held broken) x) d.0,
  ap (λ (x : Fate). both x g') e.1
      ∙ ap (λ (x : Fate). both (Held still_open) x) d.1,
)

by_softer : (self b : Bool) (m m' : Mark) → SofterMark m m' → Softer (cond self Kept (cond b Kept (Held m))) (cond self Kept (cond b Kept (Held m')))
by_softer true b m m' h = inl refl
by_softer false true m m' h = inl refl
by_softer false false m m' (inl e) = inl (ap Held e)
by_softer false false m m' (inr h) = inr (ap Held h.0, ap Held h.1)

module _ (base : ℕ → Fraction) (ends : ℕ → ℕ) (marks marks' : ℕ → Mark) where
  pub fate_softer : (p n : ℕ) (x : Item) → ((q : ℕ) → SofterMark (marks q) (marks' q)) → Softer (fate_to base ends marks p n x) (fate_to base ends marks' p n x)
  fate_softer p zero x h = inl refl
  fate_softer p (suc n) x h = both_softer (fate_to base ends marks p n x) (fate_to base ends marks' p n x) (fate_by base ends marks p n x)
      (fate_by base ends marks' p n x)
      (fate_softer p n x h) (by_softer (n == p) (is_before (start_ticks x) (base p) (ends n) (base n)) (marks n) (marks' n) (h n))

-- the same items, and at most a break is hidden
abbrev pub SofterFlow : Flow → Flow → Type 0
SofterFlow s t = (s.items ≡ t.items) × SofterMark s.mark t.mark

put_softer : (f g : Fate) (x : Item) (t u : Flow) → Softer f g → SofterFlow t u → SofterFlow (put_kept f x t) (put_kept g x u)
put_softer f g x t u (inr h) s = subst (λ (k : Fate). SofterFlow (put_kept k x t) (put_kept g x u)) (sym h.0)
    (subst (λ (k : Fate). SofterFlow (put_kept (Held broken) x t) (put_kept k x u)) (sym h.1) (refl, inr (refl, refl)))
put_softer f g x t u (inl e) s = subst (λ (k : Fate). SofterFlow (put_kept f x t) (put_kept k x u)) (sym e) (at f)
  where
    at : (f : Fate) → SofterFlow (put_kept f x t) (put_kept f x u)
    at Kept = (ap (λ (xs : List Item). x ∷ xs) s.0, s.1)
    at (Held m) = (refl, inl refl)

pub kept_softer : (f g : Item → Fate) → ((x : Item) → Softer (f x) (g x)) → (xs : List Item) (m n : Mark) → SofterMark m n → SofterFlow (kept_by f xs m) (kept_by g xs n)
kept_softer f g s [] m n h = (refl, h)
kept_softer f g s (x ∷ xs) m n h = put_softer (f x) (g x) x (kept_by f xs m) (kept_by g xs n) (s x) (kept_softer f g s xs m n h)

pub soft_below : (s t : Flow) → SofterFlow s t → LiesBelow (opened s) t
soft_below s t h = at s.mark t.mark h.1 refl refl
  where
    at : (m n : Mark) → SofterMark m n → s.mark ≡ m → t.mark ≡ n → LiesBelow (opened s) t
    at m n (inl e) a b = subst (λ (u : Flow). LiesBelow (opened s) u) (same_stream s t h.0 (a ∙ (sym e ∙ sym b))) (opened_below s)
    at m n (inr k) a b = inl (same_stream (opened s) t h.0 (ap opened_mark (a ∙ k.0) ∙ sym (b ∙ k.1)))

pub mark_softer : (a : After) (t : Flow) → SofterMark (behind a t).mark (behind a (opened t)).mark
mark_softer More t = at t.mark
  where
    at : (m : Mark) → SofterMark m (opened_mark m)
    at still_open = inl refl
    at whole = inl refl
    at broken = inr (refl, refl)
mark_softer Whole t = inl refl
mark_softer Broke t = inl refl

pub items_opened : (a : After) (t : Flow) → (behind a (opened t)).items ≡ (behind a t).items
items_opened More t = refl
items_opened Whole t = refl
items_opened Broke t = refl

pub ended_softer : (b : Bool) (s t : Flow) → LiesBelow (opened s) t → LiesBelow (opened (cond b nothing s)) (cond b nothing t)
ended_softer true s t h = inl refl
ended_softer false s t h = h

open_by : (m n : Mark) → m ≢ still_open → n ≢ still_open → held_by m n ≢ still_open
open_by still_open n h k = absurd (h refl)
open_by whole n h k = h
open_by broken n h k = k

both_closed : (f g : Fate) → f ≢ Held still_open → g ≢ Held still_open → both f g ≢ Held still_open
both_closed Kept g h k = k
both_closed (Held m) Kept h k = h
both_closed (Held m) (Held n) h k = λ e. open_by m n (λ s. h (ap Held s)) (λ s. k (ap Held s)) (cc (e))

by_closed : (self b : Bool) (m : Mark) → m ≢ still_open → cond self Kept (cond b Kept (Held m)) ≢ Held still_open
by_closed true b m h = λ e. cc
by_closed false true m h = λ e. cc
by_closed false false m h = λ e. h (cc (e))

module _ (base : ℕ → Fraction) (ends : ℕ → ℕ) (marks : ℕ → Mark) where
  pub fate_closed : (p n : ℕ) (x : Item) → ((q : ℕ) → q < n → marks q ≢ still_open) → fate_to base ends marks p n x ≢ Held still_open
  fate_closed p zero x h = λ e. cc
  fate_closed p (suc n) x h = both_closed (fate_to base ends marks p n x) (fate_by base ends marks p n x) (fate_closed p n x (λ q lt. h q (omega (arith, lt))))
      (by_closed (n == p) (is_before (start_ticks x) (base p) (ends n) (base n)) (marks n) (h n (omega arith)))

pub kept_closed : (f : Item → Fate) → ((x : Item) → f x ≢ Held still_open) → (xs : List Item) (m : Mark) → m ≢ still_open → IsClosed (kept_by f xs m)
kept_closed f h [] m c = c
kept_closed f h (x ∷ xs) m c = at (f x) (h x) (kept_closed f h xs m c)
  where
    at : (k : Fate) → k ≢ Held still_open → IsClosed (kept_by f xs m) → IsClosed (put_kept k x (kept_by f xs m))
    at Kept n r = r
    at (Held w) n r = λ e. n (ap Held e)

pub behind_over : (a : After) (t : Flow) → (is_over a ≡ true) ⊎ IsClosed t → (behind a t).mark ≢ still_open
behind_over More t (inl e) = cc
behind_over More t (inr c) = c
behind_over Whole t h = λ e. cc
behind_over Broke t h = λ e. cc

pub silent_items : (a : After) → (behind a nothing).items ≡ []
silent_items More = refl
silent_items Whole = refl
silent_items Broke = refl

pub silent_mark : (a : After) → (behind a nothing).mark ≡ mark_after a
silent_mark More = refl
silent_mark Whole = refl
silent_mark Broke = refl

-- the same is kept where all that it goes by is the same
pub kept_alike : (base base' : ℕ → Fraction) (ends ends' : ℕ → ℕ) (marks marks' : ℕ → Mark) (p n n' : ℕ) (xs ys : List Item) (m m' : Mark)
    → ((q : ℕ) → base q ≡ base' q) → ((q : ℕ) → ends q ≡ ends' q) → ((q : ℕ) → marks q ≡ marks' q) → n ≡ n' → xs ≡ ys → m ≡ m'
    → kept_by (fate_to base ends marks p n) xs m ≡ kept_by (fate_to base' ends' marks' p n') ys m'
kept_alike base base' ends ends' marks marks' p n n' xs ys m m' b e k l i j =
    let bs : base ≡ base' = λ c q. b q c in
    let es : ends ≡ ends' = λ c q. e q c in
    let ks : marks ≡ marks' = λ c q. k q c in
    ap (λ f. kept_by (fate_to f ends marks p n) xs m) bs ∙ (ap (λ f. kept_by (fate_to base' f marks p n) xs m) es ∙ (ap (λ f. kept_by (fate_to base' ends' f p n) xs m) ks
    ∙ (ap (λ r. kept_by (fate_to base' ends' marks' p r) xs m) l ∙ (ap (λ (zs : List Item). kept_by (fate_to base' ends' marks' p n') zs m) i
    ∙ ap (λ w. kept_by (fate_to base' ends' marks' p n') ys w) j))))

pub still_silent : (ls : List Line) (p : ℕ) → still_kept ls silence p ≡ kept_by (fate_now ls p) (line_at ls p).waits (mark_after (line_at ls p).after)
still_silent ls p = kept_alike (bases ls) (bases ls) (ends_with ls silence) (reaches ls) (marks_with ls silence) (stands ls) p (length ls) (length ls)
    (came (line_at ls p) nothing).items (line_at ls p).waits (came (line_at ls p) nothing).mark (mark_after (line_at ls p).after)
    (λ q. refl) (λ q. ap (λ (xs : List Item). furthest (line_at ls q).reach xs) (silent_items (line_at ls q).after)) (λ q. silent_mark (line_at ls q).after) refl
    (ap (λ (xs : List Item). (line_at ls p).waits ++ xs) (silent_items (line_at ls p).after) ∙ append-nil (line_at ls p).waits) (silent_mark (line_at ls p).after)

pub closed_by : (m : Mark) → is_closed m ≡ true → m ≢ still_open
closed_by still_open e = cc
closed_by whole e = λ h. cc
closed_by broken e = λ h. cc

pub closed_from : (m : Mark) → m ≢ still_open → is_closed m ≡ true
closed_from still_open h = absurd (h refl)
closed_from whole h = refl
closed_from broken h = refl

pub done_at : (ls : List Line) (n p : ℕ) → done_to ls n ≡ true → p < n → is_done ls p ≡ true
done_at ls zero p d lt = absurd (omega (arith, lt))
done_at ls (suc n) p d lt = let b = and_parts (done_to ls n) (is_done ls n) d in
    elim (cases_eq p n) as (λ _. is_done ls p ≡ true) [ inl same ↦ subst (λ q. is_done ls q ≡ true) (sym same) b.1 | inr ne ↦ done_at ls n p b.0 (omega (arith, lt, ne)) ]

pub done_from : (ls : List Line) (n : ℕ) → ((p : ℕ) → p < n → is_done ls p ≡ true) → done_to ls n ≡ true
done_from ls zero h = refl
done_from ls (suc n) h = and_from (done_to ls n) (is_done ls n) (done_from ls n (λ p lt. h p (omega (arith, lt)))) (h n (omega arith))

module _ (lanes : List Lane) (ls : List Line) where
  pub shortest-grows : Grows (shortest_view lanes ls).rest
  shortest-grows rs ss h q = ended_below (line_at ls q).ended (still_kept ls rs q) (still_kept ls ss q)
      (kept_below (fate_to (bases ls) (ends_with ls rs) (marks_with ls rs) q (length ls)) (fate_to (bases ls) (ends_with ls ss) (marks_with ls ss) q (length ls))
      (λ x. fate_refines (bases ls) (ends_with ls rs) (ends_with ls ss) (marks_with ls rs) (marks_with ls ss) q (length ls) x
      (λ p lt. flow_further (line_at ls p).reach (behind (line_at ls p).after (rs p)) (behind (line_at ls p).after (ss p))
      (behind_below (line_at ls p).after (rs p) (ss p) (h p))))
      (came (line_at ls q) (rs q)) (came (line_at ls q) (ss q))
      (waits_below (line_at ls q).waits (behind (line_at ls q).after (rs q)) (behind (line_at ls q).after (ss q))
      (behind_below (line_at ls q).after (rs q) (ss q) (h q))))

  soft_kept : (rs : Ports) (q : ℕ) → SofterFlow (still_kept ls rs q) (still_kept ls (all_opened rs) q)
  soft_kept rs q =
      let f = fate_to (bases ls) (ends_with ls rs) (marks_with ls rs) q (length ls) in
      let g = fate_to (bases ls) (ends_with ls rs) (marks_with ls (all_opened rs)) q (length ls) in
      let same : kept_by g (came (line_at ls q) (rs q)).items (came (line_at ls q) (opened (rs q))).mark ≡ still_kept ls (all_opened rs) q =
      kept_alike (bases ls) (bases ls) (ends_with ls rs) (ends_with ls (all_opened rs)) (marks_with ls (all_opened rs)) (marks_with ls (all_opened rs)) q (length ls)
      (length ls)
      (came (line_at ls q) (rs q)).items (came (line_at ls q) (opened (rs q))).items (came (line_at ls q) (opened (rs q))).mark (came (line_at ls q) (opened (rs q))).mark
      (λ p. refl) (λ p. ap (λ (xs : List Item). furthest (line_at ls p).reach xs) (sym (items_opened (line_at ls p).after (rs p)))) (λ p. refl) refl
      (ap (λ (xs : List Item). (line_at ls q).waits ++ xs) (sym (items_opened (line_at ls q).after (rs q)))) refl in
      subst (λ (t : Flow). SofterFlow (still_kept ls rs q) t) same
      (kept_softer f g (λ x. fate_softer (bases ls) (ends_with ls rs) (marks_with ls rs) (marks_with ls (all_opened rs)) q (length ls) x
      (λ p. mark_softer (line_at ls p).after (rs p)))
      (came (line_at ls q) (rs q)).items (came (line_at ls q) (rs q)).mark (came (line_at ls q) (opened (rs q))).mark (mark_softer (line_at ls q).after (rs q)))

  pub shortest-hides : HidesBreaks (shortest_view lanes ls).rest
  shortest-hides rs q = ended_softer (line_at ls q).ended (still_kept ls rs q) (still_kept ls (all_opened rs) q)
      (soft_below (still_kept ls rs q) (still_kept ls (all_opened rs) q) (soft_kept rs q))

  pub shortest-quiet : (q : ℕ) → (line_at ls q).ended ≡ true → (ext : Ports) → cond (line_at ls q).ended nothing (still_kept ls ext q) ≡ nothing
  shortest-quiet q e ext = rw e refl

  settled : (ext : Ports) → ((p : ℕ) → p < length ls → (is_over (line_at ls p).after ≡ true) ⊎ IsClosed (ext p)) → (q : ℕ) → q < length ls
      → IsClosed (still_kept ls ext q)
  settled ext h q lt = kept_closed (fate_to (bases ls) (ends_with ls ext) (marks_with ls ext) q (length ls))
      (λ x. fate_closed (bases ls) (ends_with ls ext) (marks_with ls ext) q (length ls) x (λ p l. behind_over (line_at ls p).after (ext p) (h p l)))
      (came (line_at ls q) (ext q)).items (came (line_at ls q) (ext q)).mark (behind_over (line_at ls q).after (ext q) (h q lt))

  pub settles_if : length lanes ≡ length ls → Settles (shortest_view lanes ls)
  settles_if l ext h q lt on = at (line_at ls q).ended
    where
      at : (b : Bool) → (b ≡ true) ⊎ IsClosed (cond b nothing (still_kept ls ext q))
      at true = inl refl
      at false = inr (settled ext (λ p less. h p (omega (arith, less, l))) q (omega (arith, lt, l)))

  -- an output is over just where it was closed or is closed by what came
  over_of : (b : Bool) (q : ℕ) → (b || is_closed (mark_now ls q)) ≡ true → (b ≡ true) ⊎ IsClosed (cond b nothing (still_kept ls silence q))
  over_of true q e = inl refl
  over_of false q e = inr (λ o. closed_by (mark_now ls q) e (sym (ap (λ (t : Flow). t.mark) (still_silent ls q)) ∙ o))

  over_is : (b : Bool) (q : ℕ) → (b ≡ true) ⊎ IsClosed (cond b nothing (still_kept ls silence q)) → (b || is_closed (mark_now ls q)) ≡ true
  over_is true q h = refl
  over_is false q (inl e) = cc
  over_is false q (inr c) = closed_from (mark_now ls q) (λ o. c (ap (λ (t : Flow). t.mark) (still_silent ls q) ∙ o))

  pub spent_if : length lanes ≡ length ls → (p : ℕ) → p < length lanes → shortest_spent ls p ≡ true → IsSpent (shortest_view lanes ls) p
  spent_if l p lt e = elim (or_cases (is_over (line_at ls p).after) (done_to ls (length ls)) e) as (λ _. IsSpent (shortest_view lanes ls) p) [
    | inl s ↦ inl s
    | inr d ↦ inr (
      omega (arith, lt),
      λ q less on.
          let done : ((line_at ls q).ended || is_closed (mark_now ls q)) ≡ true = ap (λ b. b || ((line_at ls q).ended || is_closed (mark_now ls q))) (sym on)
          ∙ done_at ls (length ls) q d (omega (arith, less, l)) in
          over_of (line_at ls q).ended q done,
    )
  ]

  pub spent_from : length lanes ≡ length ls → (p : ℕ) → IsSpent (shortest_view lanes ls) p → shortest_spent ls p ≡ true
  spent_from l p (inl s) = or_left (is_over (line_at ls p).after) (done_to ls (length ls)) s
  spent_from l p (inr h) = or_right (is_over (line_at ls p).after) (done_to ls (length ls)) (done_from ls (length ls) (λ q less.
      elim (cases_Bool (line_at ls q).stopped) as (λ _. is_done ls q ≡ true) [
        | inl t ↦ or_left (line_at ls q).stopped ((line_at ls q).ended || is_closed (mark_now ls q)) t
        | inr f ↦ or_right (line_at ls q).stopped ((line_at ls q).ended || is_closed (mark_now ls q)) (over_is (line_at ls q).ended q (h.1 q (omega (arith, less, l)) f))
      ]))

  pub shortest-shut_spent : (p : ℕ) → is_over (line_at ls p).after ≡ true → shortest_spent ls p ≡ true
  shortest-shut_spent p e = or_left (is_over (line_at ls p).after) (done_to ls (length ls)) e

  pub done_spent_if : length lanes ≡ length ls → (p : ℕ) → AllDone (shortest_view lanes ls) → shortest_spent ls p ≡ true
  done_spent_if l p d = or_right (is_over (line_at ls p).after) (done_to ls (length ls)) (done_from ls (length ls) (λ q less.
      elim (d q (omega (arith, less, l))) as (λ _. is_done ls q ≡ true) [
        | inl e ↦ or_right (line_at ls q).stopped ((line_at ls q).ended || is_closed (mark_now ls q)) (or_left (line_at ls q).ended (is_closed (mark_now ls q)) e)
        | inr s ↦ or_left (line_at ls q).stopped ((line_at ls q).ended || is_closed (mark_now ls q)) s
      ]))

pub lanes_long : (ss : List Side) → length (lanes_of ss) ≡ length (lines_of ss)
lanes_long [] = refl
lanes_long (s ∷ ss) = let e = lanes_long ss in omega (arith, e)

pub shortest-settles : (ss : List Side) → Settles (view_of ss)
shortest-settles ss = settles_if (lanes_of ss) (lines_of ss) (lanes_long ss)

pub shortest-spent_only : (ss : List Side) (p : ℕ) → p < length (lanes_of ss) → shortest_spent (lines_of ss) p ≡ true → IsSpent (view_of ss) p
shortest-spent_only ss p lt e = spent_if (lanes_of ss) (lines_of ss) (lanes_long ss) p lt e

pub shortest-done_spent : (ss : List Side) (p : ℕ) → AllDone (view_of ss) → shortest_spent (lines_of ss) p ≡ true
shortest-done_spent ss p d = done_spent_if (lanes_of ss) (lines_of ss) (lanes_long ss) p d
