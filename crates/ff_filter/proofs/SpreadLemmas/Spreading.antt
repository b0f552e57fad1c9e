-- What each move of a machine that spreads does.
use Rattle.std.specs.Prelude.{◌↔◌}
use Rattle.std.proofs.Common.{◌≡◌, ◌≢◌, ℕ, zero, suc, ◌<◌, ◌≤◌, ◌⊎◌, inl, inr, nat_lt, Bool, true, false, cond, IsTrue, Result, Ok, Err, OnOk, Some, List, ◌∷◌, length, map, refl, ap, sym, ◌∙◌, subst, arith}
use Rattle.ff_stream.specs.declared.item.Item.{Item}
use Rattle.ff_stream.specs.declared.item.Item.TheVariants.{Audio, Video, Packet, Trailer, End, Broken}
use Rattle.ff_stream.specs.declared.item.Lane.{Lane}
use Rattle.ff_stream.specs.Stream.{Mark, map_stream}
use Rattle.ff_stream.specs.Ports.{nothing}
use Rattle.ff_filter.specs.declared.after.After.{After}
use Rattle.ff_filter.specs.declared.after.After.TheVariants.{More, Whole, Broke}
use Rattle.ff_filter.specs.declared.outlet.Outlet.{Outlet}
use Rattle.ff_filter.specs.Joins.{Flow, before, before_all, before_all-last}
use Rattle.ff_filter.specs.Views.{closes, Same, Fed, Gave, Waits, Stopped, IsSpent}
use Rattle.ff_filter.specs.Made.{behind, is_over, closing, left}
use Rattle.ff_filter.specs.laws.spread.Lines.{Line, fresh, lines, IsPut, Took, HasAll}
use Rattle.ff_filter.specs.spread.Spreads.{on_output, spread_view, spread_start, spread_spent}
use Rattle.ff_filter.specs.laws.spread.SpreadLaws.{below_by, on_there, spread-exact}
use Rattle.ff_filter.proofs.SpreadLemmas.Putting.{same_or_not, lines_beyond}

-- what is made of an item that closes nothing stands before what is made of the others
map_before : (g : Item → Item) (x : Item) (t : Flow) → closes x ≡ false → closes (g x) ≡ false → map_stream g (before x t) ≡ before (g x) (map_stream g t)
map_before g x t c d = at x (g x) refl c d
  where
    next : (y : Item) (xs : List Item) (m : Mark) → closes y ≡ false → before y (record { items = xs; mark = m }) ≡ record { items = y ∷ xs; mark = m }
    next (Audio f) xs m e = refl
    next (Video f) xs m e = refl
    next (Packet f) xs m e = refl
    next (Trailer f) xs m e = refl
    next End xs m e = cc
    next Broken xs m e = cc

    at : (x y : Item) → g x ≡ y → closes x ≡ false → closes y ≡ false → map_stream g (before x t) ≡ before y (map_stream g t)
    at x y e c d = ap (λ (s : Flow). map_stream g s) (next x t.items t.mark c) ∙ (ap (λ (z : Item). let s : Flow = record { items = z ∷ map g t.items; mark = t.mark } in s) e ∙ sym (next y (map g t.items) t.mark d))

put_line : (old new : Line) (x y : Item) (g : Item → Item) (t : Flow) → IsPut old new y → y ≡ g x → closes x ≡ false → closes (g x) ≡ false → old.stopped ≡ false
    → left new.queue new.ended More (map_stream g t) ≡ left old.queue old.ended More (map_stream g (before x t))
put_line old new x y g t p is c d on =
    ap (λ (e : Bool). cond e nothing (before_all new.queue (map_stream g t))) p.ended
    ∙ ap (λ (s : Flow). cond old.ended nothing s)
    (ap (λ (xs : List Item). before_all xs (map_stream g t)) (p.queue on)
    ∙ (before_all-last old.queue y (map_stream g t)
    ∙ ap (λ (s : Flow). before_all old.queue s) (ap (λ (z : Item). before z (map_stream g t)) is ∙ sym (map_before g x t c d))))

if_there : (b : Bool) (r s : Flow) → (b ≡ true → r ≡ s) → cond b r nothing ≡ cond b s nothing
if_there true r s h = h refl
if_there false r s h = refl

no_other : (p : ℕ) → p < 1 → p ≢ 0 → ⊥
no_other p lt n = let z : p ≡ 0 = omega arith in n z

only : (p : ℕ) → p < 1 → 0 ≡ p
only p lt = omega arith

closes_closing : (x : Item) (after : After) → closing x ≡ Some after → (closes x ≡ true) × (is_over after ≡ true) × ((t : Flow) → before x t ≡ behind after t)
closes_closing (Audio f) a e = cc
closes_closing (Video f) a e = cc
closes_closing (Packet p) a e = cc
closes_closing (Trailer p) a e = cc
closes_closing End More e = cc
closes_closing End Whole e = (refl, refl, λ t. refl)
closes_closing End Broke e = cc
closes_closing Broken More e = cc
closes_closing Broken Whole e = cc
closes_closing Broken Broke e = (refl, refl, λ t. refl)

closed_so : (g : Item → Item) (x : Item) (after : After) (t : Flow) → closing x ≡ Some after → behind after (map_stream g t) ≡ map_stream g (before x t)
closed_so g (Audio f) a t e = cc
closed_so g (Video f) a t e = cc
closed_so g (Packet p) a t e = cc
closed_so g (Trailer p) a t e = cc
closed_so g End More t e = cc
closed_so g End Whole t e = refl
closed_so g End Broke t e = cc
closed_so g Broken More t e = cc
closed_so g Broken Whole t e = cc
closed_so g Broken Broke t e = refl

below_or : (p n : ℕ) → (p < n) ⊎ (n ≤ p)
below_or p zero = inr (omega arith)
below_or zero (suc n) = inl (omega arith)
below_or (suc p) (suc n) = elim (below_or p n) as (λ _. (suc p < suc n) ⊎ (suc n ≤ suc p)) [ inl a ↦ inl (omega (arith, a)) | inr b ↦ inr (omega (arith, b)) ]

going : (after : After) → is_over after ≡ false → after ≡ More
going More e = refl
going Whole e = cc
going Broke e = cc

module _ (lane_in : Lane) (lanes_out : List Lane) (shared : ℕ → Item → Item) where
  -- an item was put on each output
  pub spread_fed : (ls ls' : ℕ → Line) (after : After) (p : ℕ) (x : Item) → p < 1 → is_over after ≡ false → closes x ≡ false → ((q : ℕ) → closes (shared q x) ≡ false)
      → ((q : ℕ) → q < length lanes_out → IsPut (ls q) (ls' q) (shared q x)) → ((q : ℕ) → length lanes_out ≤ q → ls' q ≡ ls q)
      → Fed (spread_view lane_in lanes_out shared ls after) (spread_view lane_in lanes_out shared ls' after) p x
  spread_fed ls ls' after p x lt o c d put others = subst (λ (i : ℕ). Fed (spread_view lane_in lanes_out shared ls after) (spread_view lane_in lanes_out shared ls' after) i x) (only p lt) (record {
    ports = record { ins = refl; outs = refl };
    rest = λ ext q on. if_there (nat_lt q (length lanes_out)) (left (ls' q).queue (ls' q).ended after (map_stream (shared q) (ext 0))) (left (ls q).queue (ls q).ended after (map_stream (shared q) (before x (ext 0))))
        (λ e. subst (λ (a : After). left (ls' q).queue (ls' q).ended a (map_stream (shared q) (ext 0)) ≡ left (ls q).queue (ls q).ended a (map_stream (shared q) (before x (ext 0)))) (sym (going after o))
        (put_line (ls q) (ls' q) x (shared q x) (shared q) (ext 0) (put q (below_by q (length lanes_out) e)) refl c (d q) on));
    shut_here = rw (o, c) refl;
    shut_others = λ i l n. absurd (no_other i l n);
    ended = λ q. elim (below_or q (length lanes_out)) as (λ _. (ls' q).ended ≡ (ls q).ended) [ inl l ↦ (put q l).ended | inr g ↦ ap (λ (l : Line). l.ended) (others q g) ];
    stopped = λ q. elim (below_or q (length lanes_out)) as (λ _. (ls' q).stopped ≡ (ls q).stopped) [ inl l ↦ (put q l).stopped | inr g ↦ ap (λ (l : Line). l.stopped) (others q g) ];
  })

  -- the input was closed
  pub spread_closed : (ls : ℕ → Line) (after after' : After) (p : ℕ) (x : Item) → p < 1 → is_over after ≡ false → closing x ≡ Some after'
      → Fed (spread_view lane_in lanes_out shared ls after) (spread_view lane_in lanes_out shared ls after') p x
  spread_closed ls after after' p x lt o e = subst (λ (i : ℕ). Fed (spread_view lane_in lanes_out shared ls after) (spread_view lane_in lanes_out shared ls after') i x) (only p lt) (record {
    ports = record { ins = refl; outs = refl };
    rest = λ ext q on. if_there (nat_lt q (length lanes_out)) (left (ls q).queue (ls q).ended after' (map_stream (shared q) (ext 0))) (left (ls q).queue (ls q).ended after (map_stream (shared q) (before x (ext 0))))
        (λ _. subst (λ (a : After). left (ls q).queue (ls q).ended after' (map_stream (shared q) (ext 0)) ≡ left (ls q).queue (ls q).ended a (map_stream (shared q) (before x (ext 0)))) (sym (going after o))
        (ap (λ (s : Flow). cond (ls q).ended nothing (before_all (ls q).queue s)) (closed_so (shared q) x after' (ext 0) e)));
    shut_here = let h = closes_closing x after' e in rw (o, h.0) h.1;
    shut_others = λ i l n. absurd (no_other i l n);
    ended = λ q. refl;
    stopped = λ q. refl;
  })

  module _ (ls ls' : ℕ → Line) (after : After) (p : ℕ) (lt : p < length lanes_out) (others : (q : ℕ) → q ≢ p → ls' q ≡ ls q) where
    stopped_so : (ls' p).stopped ≡ (ls p).stopped → (q : ℕ) → (ls' q).stopped ≡ (ls q).stopped
    stopped_so h q = elim (same_or_not q p) as (λ _. (ls' q).stopped ≡ (ls q).stopped) [
      | inl e ↦ subst (λ (k : ℕ). (ls' k).stopped ≡ (ls k).stopped) (sym e) h
      | inr n ↦ ap (λ (l : Line). l.stopped) (others q n)
    ]

    ended_so : (ls' p).ended ≡ (ls p).ended → (q : ℕ) → (ls' q).ended ≡ (ls q).ended
    ended_so h q = elim (same_or_not q p) as (λ _. (ls' q).ended ≡ (ls q).ended) [
      | inl e ↦ subst (λ (k : ℕ). (ls' k).ended ≡ (ls k).ended) (sym e) h
      | inr n ↦ ap (λ (l : Line). l.ended) (others q n)
    ]

    left_so : ((t : Flow) → left (ls' p).queue (ls' p).ended after t ≡ left (ls p).queue (ls p).ended after t) → (q : ℕ) (t : Flow) → left (ls' q).queue (ls' q).ended after t ≡ left (ls q).queue (ls q).ended after t
    left_so h q t = elim (same_or_not q p) as (λ _. left (ls' q).queue (ls' q).ended after t ≡ left (ls q).queue (ls q).ended after t) [
      | inl e ↦ subst (λ (k : ℕ). left (ls' k).queue (ls' k).ended after t ≡ left (ls k).queue (ls k).ended after t) (sym e) (h t)
      | inr n ↦ ap (λ (l : Line). left l.queue l.ended after t) (others q n)
    ]

    -- an item was given
    pub spread_gave : (x : Item) → Took (ls p) (ls' p) after x → (ls' p).stopped ≡ (ls p).stopped → Gave (spread_view lane_in lanes_out shared ls after) (spread_view lane_in lanes_out shared ls' after) p x
    spread_gave x t s = record {
      ports = record { ins = refl; outs = refl };
      open_before = t.open_before;
      rest_here = λ ext. on_there (length lanes_out) p (left (ls p).queue (ls p).ended after (map_stream (shared p) (ext 0))) lt
          ∙ (t.rest (map_stream (shared p) (ext 0)) ∙ ap (λ (r : Flow). before x r) (sym (on_there (length lanes_out) p (left (ls' p).queue (ls' p).ended after (map_stream (shared p) (ext 0))) lt)));
      rest_others = λ ext o l n w. ap (λ (k : Line). on_output (length lanes_out) o (left k.queue k.ended after (map_stream (shared o) (ext 0)))) (others o n);
      shut = λ i. refl;
      ended_here = t.ended;
      ended_others = λ o l n. ap (λ (k : Line). k.ended) (others o n);
      stopped = stopped_so s;
    }

    -- all that is due was given
    pub spread_waits : HasAll (ls p) (ls' p) after → (ls' p).stopped ≡ (ls p).stopped → Waits (spread_view lane_in lanes_out shared ls after) (spread_view lane_in lanes_out shared ls' after) p
    spread_waits h s = record {
      same = record {
        ports = record { ins = refl; outs = refl };
        rest = λ ext q on. ap (λ (t : Flow). on_output (length lanes_out) q t) (left_so h.rest q (map_stream (shared q) (ext 0)));
        shut = λ i. refl;
        ended = ended_so h.ended;
        stopped = stopped_so s;
      };
      nothing_left = on_there (length lanes_out) p (left (ls p).queue (ls p).ended after nothing) lt ∙ h.nothing_left;
    }

    -- an output was stopped
    pub spread_stopped : (ls' p).stopped ≡ true → (ls' p).ended ≡ (ls p).ended → Stopped (spread_view lane_in lanes_out shared ls after) (spread_view lane_in lanes_out shared ls' after) p
    spread_stopped s e = record {
      ports = record { ins = refl; outs = refl };
      stopped_here = s;
      stopped_others = λ o l n. ap (λ (k : Line). k.stopped) (others o n);
      rest_others = λ ext o l n w. ap (λ (k : Line). on_output (length lanes_out) o (left k.queue k.ended after (map_stream (shared o) (ext 0)))) (others o n);
      shut = λ i. refl;
      ended = ended_so e;
    }

  -- nothing changed
  pub spread_same : (ls ls' : ℕ → Line) (after : After) → ((q : ℕ) → ls' q ≡ ls q) → Same (spread_view lane_in lanes_out shared ls after) (spread_view lane_in lanes_out shared ls' after)
  spread_same ls ls' after h = record {
    ports = record { ins = refl; outs = refl };
    rest = λ ext q on. ap (λ (k : Line). on_output (length lanes_out) q (left k.queue k.ended after (map_stream (shared q) (ext 0)))) (h q);
    shut = λ i. refl;
    ended = λ q. ap (λ (k : Line). k.ended) (h q);
    stopped = λ q. ap (λ (k : Line). k.stopped) (h q);
  }

  -- nothing was fed yet
  pub spread_starts : (ls : ℕ → Line) (after : After) → ((q : ℕ) → ls q ≡ fresh) → after ≡ More → spread_view lane_in lanes_out shared ls after ≡ spread_start lane_in lanes_out shared
  spread_starts ls after h e = ap (λ (a : After). spread_view lane_in lanes_out shared ls a) e ∙ ap (λ (f : ℕ → Line). spread_view lane_in lanes_out shared f More) (λ i q. h q i)

  -- an item was put on each output, or on none
  pub spread_fed_ok : {U E : Type 0} (r : Result U E) (os os' : List Outlet) (after : After) (p : ℕ) (x : Item) → length lanes_out ≡ length os → length os' ≡ length os → p < 1 → is_over after ≡ false → closes x ≡ false → ((q : ℕ) → closes (shared q x) ≡ false)
      → OnOk r ((q : ℕ) → 0 ≤ q → q < length os → IsPut (lines os q) (lines os' q) (shared q x))
      → OnOk r (Fed (spread_view lane_in lanes_out shared (lines os) after) (spread_view lane_in lanes_out shared (lines os') after) p x)
  spread_fed_ok (Err e) os os' after p x count len lt o c d put = tt
  spread_fed_ok (Ok u) os os' after p x count len lt o c d put = spread_fed (lines os) (lines os') after p x lt o c d
      (λ q l. put q (omega arith) (omega (arith, l, count)))
      (λ q g. lines_beyond os' q (omega (arith, g, count, len)) ∙ sym (lines_beyond os q (omega (arith, g, count))))

  -- it is spent exactly where it says so
  pub spread_exactly : (os : List Outlet) (after : After) → length lanes_out ≡ length os → (b : Bool) → b ≡ spread_spent after os → IsTrue b ↔ IsSpent (spread_view lane_in lanes_out shared (lines os) after) 0
  spread_exactly os after count b is = let h = spread-exact lane_in lanes_out shared os after count 0 in (λ t. h.0 (sym is ∙ t), λ s. is ∙ h.1 s)
