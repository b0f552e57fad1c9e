-- An item is put on each output.
use Rattle.std.proofs.Common.{◌≡◌, ◌≢◌, ℕ, zero, suc, ◌+◌, ◌<◌, ◌≤◌, ◌⊎◌, inl, inr, Bool, true, false, Result, Ok, Err, OnOk, List, [], ◌∷◌, ◌++◌, length, slice_index_or, slice_set, replicate, refl, ap, sym, ◌∙◌, subst, arith}
use Rattle.std.proofs.lemmas.List.{length-set}
use Rattle.ff_stream.specs.declared.item.Item.{Item}
use Rattle.ff_stream.specs.Ports.{nothing}
use Rattle.ff_filter.specs.declared.after.After.{After}
use Rattle.ff_filter.specs.declared.outlet.Outlet.{Outlet}
use Rattle.ff_filter.specs.Joins.{Flow, before}
use Rattle.ff_filter.specs.Views.{closes}
use Rattle.ff_filter.specs.Made.{left}
use Rattle.ff_filter.specs.laws.spread.Lines.{Line, fresh, line_of, lines, is_done, IsFront, IsPut, Took, HasAll}
use Rattle.ff_filter.specs.laws.spread.LineLaws.{lines_set, lines_other, lines_read}

pub same_or_not : (p q : ℕ) → (p ≡ q) ⊎ (p ≢ q)
same_or_not zero zero = inl refl
same_or_not zero (suc q) = inr (λ e. omega (arith, e))
same_or_not (suc p) zero = inr (λ e. omega (arith, e))
same_or_not (suc p) (suc q) = elim (same_or_not p q) as (λ _. (suc p ≡ suc q) ⊎ (suc p ≢ suc q)) [ inl e ↦ inl (ap suc e) | inr n ↦ inr (λ e. n (omega (arith, e))) ]

pub lines_beyond : (os : List Outlet) (q : ℕ) → length os ≤ q → lines os q ≡ fresh
lines_beyond [] q le = refl
lines_beyond (o ∷ os) zero le = absurd (omega arith)
lines_beyond (o ∷ os) (suc q) le = lines_beyond os q (omega arith)

pub line_same : (a b : Outlet) → a.queue.items ≡ b.queue.items → a.ended ≡ b.ended → a.stopped ≡ b.stopped → line_of a ≡ line_of b
line_same a b q e s =
    ap (λ (xs : List Item). let l : Line = record { queue = xs; ended = a.ended; stopped = a.stopped } in l) q
    ∙ (ap (λ (c : Bool). let l : Line = record { queue = b.queue.items; ended = c; stopped = a.stopped } in l) e
    ∙ ap (λ (c : Bool). let l : Line = record { queue = b.queue.items; ended = b.ended; stopped = c } in l) s)

-- an output that keeps its line
pub lines_kept : (os : List Outlet) (p : ℕ) (o o' : Outlet) → p < length os → o ≡ slice_index_or os p o → line_of o' ≡ line_of o → (q : ℕ) → lines (slice_set os p o') q ≡ lines os q
lines_kept os p o o' lt e same q = elim (same_or_not q p) as (λ _. lines (slice_set os p o') q ≡ lines os q) [
  | inl k ↦ subst (λ (i : ℕ). lines (slice_set os p o') i ≡ lines os i) (sym k) (lines_set os p o' lt ∙ (same ∙ sym (lines_read os p o o lt e)))
  | inr n ↦ lines_other os p q o' n
]

-- of an output whose item was given
pub took_by : (old new : Line) (o o' : Outlet) (after : After) (x : Item) → old ≡ line_of o → new ≡ line_of o'
    → (o.ended ≡ false) × ((t : Flow) → left o.queue.items o.ended after t ≡ before x (left o'.queue.items o'.ended after t)) × (o'.ended ≡ closes x) → Took old new after x
took_by old new o o' after x e f h = rw (e, f) (record { open_before = h.0; rest = h.1; ended = h.2 })

pub has_all_by : (old new : Line) (o o' : Outlet) (after : After) → old ≡ line_of o → new ≡ line_of o'
    → ((t : Flow) → left o'.queue.items o'.ended after t ≡ left o.queue.items o.ended after t) × (left o.queue.items o.ended after nothing ≡ nothing) × (o'.ended ≡ o.ended) → HasAll old new after
has_all_by old new o o' after e f h = rw (e, f) (record { rest = h.0; nothing_left = h.1; ended = h.2 })

-- an output that isn't wanted and stays
pub unwanted : (old new : Line) (x : Item) → new ≡ old → old.stopped ≡ true → IsPut old new x
unwanted old new x e s = rw e (record { ended = refl; stopped = refl; queue = λ n. let clash : true ≡ false = sym s ∙ n in cc })

pub front_line : (port : ℕ) (old new : List Outlet) (q : ℕ) (d : Outlet) → q < length old → length new ≡ length old → IsFront port old new → q < port → lines new q ≡ lines old q
front_line port old new q d lt len front less =
    let there : q < length new = omega (arith, lt, len) in
    lines_read new q d (slice_index_or new q d) there refl ∙ (ap line_of (front q d less) ∙ sym (lines_read old q d (slice_index_or old q d) lt refl))

pub put_more : {U E : Type 0} (r : Result U E) (os os' : List Outlet) (p : ℕ) (d : Outlet) (f : ℕ → Item) → p < length os → (lines os p).stopped ≡ true → length os' ≡ length os → IsFront (p + 1) os os'
    → OnOk r ((q : ℕ) → p + 1 ≤ q → q < length os → IsPut (lines os q) (lines os' q) (f q)) → OnOk r ((q : ℕ) → p ≤ q → q < length os → IsPut (lines os q) (lines os' q) (f q))
put_more (Err e) os os' p d f lt s len front h = tt
put_more (Ok u) os os' p d f lt s len front h = λ q le there. elim (same_or_not q p) as (λ _. IsPut (lines os q) (lines os' q) (f q)) [
  | inl k ↦ subst (λ (i : ℕ). IsPut (lines os i) (lines os' i) (f i)) (sym k) (unwanted (lines os p) (lines os' p) (f p) (front_line (p + 1) os os' p d lt len front (omega arith)) s)
  | inr n ↦ h q (omega (arith, le, n)) there
]

-- on this output and on those behind it
pub put_all : (os os' : List Outlet) (p : ℕ) (o o1 o2 o3 : Outlet) (y : Item) (f : ℕ → Item) → p < length os → o ≡ slice_index_or os p o → line_of o1 ≡ line_of o
    → length os' ≡ length (slice_set os p o1) → IsFront (p + 1) (slice_set os p o1) os' → o2 ≡ slice_index_or os' p o2
    → y ≡ f p → (o2.stopped ≡ false → o3.queue.items ≡ o2.queue.items ++ y ∷ []) → o3.ended ≡ o2.ended → o3.stopped ≡ o2.stopped
    → ((q : ℕ) → p + 1 ≤ q → q < length (slice_set os p o1) → IsPut (lines (slice_set os p o1) q) (lines os' q) (f q))
    → (q : ℕ) → p ≤ q → q < length os → IsPut (lines os q) (lines (slice_set os' p o3) q) (f q)
put_all os os' p o o1 o2 o3 y f lt at same len front at' is put ended stopped behind q le there =
    let size : length (slice_set os p o1) ≡ length os = simp length-set in
    let lt1 : p < length (slice_set os p o1) = omega (arith, lt, size) in
    let lt2 : p < length os' = omega (arith, lt1, len) in
    let here : line_of o2 ≡ lines os p =
    sym (lines_read os' p o2 o2 lt2 at') ∙ (front_line (p + 1) (slice_set os p o1) os' p o lt1 len front (omega arith) ∙ (lines_set os p o1 lt ∙ (same ∙ sym (lines_read os p o o lt at)))) in
    let one : IsPut (line_of o2) (line_of o3) y = record { ended = ended; stopped = stopped; queue = put } in
    elim (same_or_not q p) as (λ _. IsPut (lines os q) (lines (slice_set os' p o3) q) (f q)) [
      | inl k ↦ subst (λ (i : ℕ). IsPut (lines os i) (lines (slice_set os' p o3) i) (f i)) (sym k)
          (subst (λ (l : Line). IsPut l (lines (slice_set os' p o3) p) (f p)) here (subst (λ (l : Line). IsPut (line_of o2) l (f p)) (sym (lines_set os' p o3 lt2)) (subst (λ (z : Item). IsPut (line_of o2) (line_of o3) z) is one)))
      | inr n ↦ subst (λ (l : Line). IsPut l (lines (slice_set os' p o3) q) (f q)) (lines_other os p q o1 n) (subst (λ (l : Line). IsPut (lines (slice_set os p o1) q) l (f q)) (sym (lines_other os' p q o3 n))
          (behind q (omega (arith, le, n)) (omega (arith, there, size))))
    ]

pub replicate_last : {A : Type 0} (n : ℕ) (x : A) → replicate n x ++ x ∷ [] ≡ replicate (n + 1) x
replicate_last zero x = refl
replicate_last {A} (suc n) x = let e : suc n + 1 ≡ suc (n + 1) = omega arith in rw e (ap (λ (xs : List A). x ∷ xs) (replicate_last n x))

pub line_fresh : (o : Outlet) → o.queue.items ≡ [] → o.ended ≡ false → o.stopped ≡ false → line_of o ≡ fresh
line_fresh o q e s =
    ap (λ (xs : List Item). let l : Line = record { queue = xs; ended = o.ended; stopped = o.stopped } in l) q
    ∙ (ap (λ (c : Bool). let l : Line = record { queue = []; ended = c; stopped = o.stopped } in l) e
    ∙ ap (λ (c : Bool). let l : Line = record { queue = []; ended = false; stopped = c } in l) s)

-- one more output is done with
pub done_more : (os : List Outlet) (n : ℕ) → ((q : ℕ) → q < n → is_done (lines os q) ≡ true) → is_done (lines os n) ≡ true → (q : ℕ) → q < n + 1 → is_done (lines os q) ≡ true
done_more os n h e q lt = elim (same_or_not q n) as (λ _. is_done (lines os q) ≡ true) [
  | inl k ↦ subst (λ (i : ℕ). is_done (lines os i) ≡ true) (sym k) e
  | inr d ↦ h q (omega (arith, lt, d))
]

pub stopped_more : (os : List Outlet) (from n : ℕ) → ((q : ℕ) → from ≤ q → q < n → (lines os q).stopped ≡ true) → (lines os n).stopped ≡ true → (q : ℕ) → from ≤ q → q < n + 1 → (lines os q).stopped ≡ true
stopped_more os from n h e q le lt = elim (same_or_not q n) as (λ _. (lines os q).stopped ≡ true) [
  | inl k ↦ subst (λ (i : ℕ). (lines os i).stopped ≡ true) (sym k) e
  | inr d ↦ h q le (omega (arith, lt, d))
]
