-- The laws of a trim, which goes through a stream picture by picture.
use Rattle.std.specs.Prelude.{◌≡◌, Bool, true, false, cond, nat_le, Some, None, List, [], ◌∷◌, refl}
use Rattle.std.proofs.Common.{ap, sym, ◌∙◌, subst}
use Rattle.ff_stream.specs.declared.item.Item.{Item}
use Rattle.ff_stream.specs.Stream.{Mark, still_open, whole, broken, LiesBelow, opened}
use Rattle.ff_stream.specs.Ports.{nothing, IsClosed}
use Rattle.ff_filter.specs.declared.after.After.TheVariants.{More, Whole}
use Rattle.ff_filter.specs.declared.range.Range.{Range}
use Rattle.ff_filter.specs.Joins.{Flow, before, joined}
use Rattle.ff_filter.specs.Views.{closes}
use Rattle.ff_filter.specs.Made.{made_of}
use Rattle.ff_filter.specs.laws.Limits.{run_next, single}
use Rattle.ff_filter.specs.Ranges.{is_past}
use Rattle.ff_filter.specs.laws.Runs.{Stepped, run, run_at, no_more, run_below, run_calm, run_settles}
use Rattle.ff_filter.specs.Shifts.{start_ticks}
use Rattle.ff_vfilter.specs.Trims.{before_stop, reaches, from_start, trimmed}

-- what one picture gives
abbrev pub trim_step : Range → Item → Stepped Range
trim_step range x = record {
  made = cond (is_past range.stop (start_ticks x)) (record { items = []; mark = whole })
      (cond (nat_le range.start (start_ticks x)) (record { items = x ∷ []; mark = still_open }) nothing);
  next = range;
}

step_at : (a b : Bool) (x : Item) (xs : List Item) (m : Mark)
    → joined (cond a (record { items = []; mark = whole }) (cond b (record { items = x ∷ []; mark = still_open }) nothing)) (record { items = xs; mark = m })
    ≡ record { items = cond a [] (cond b (x ∷ xs) xs); mark = cond a whole m }
step_at true b x xs m = refl
step_at false true x xs m = refl
step_at false false x xs m = refl

kept_at : (a : Bool) (range : Range) (x : Item) (xs : List Item) (r : Bool) (m : Mark)
    → ◌≡◌ {A = Flow} (record {
      items = cond a [] (cond (nat_le range.start (start_ticks x)) (x ∷ from_start range.start xs) (from_start range.start xs));
      mark = cond a whole (cond r whole m);
    })
    (record { items = from_start range.start (cond a [] (x ∷ xs)); mark = cond (cond a true r) whole m })
kept_at true range x xs r m = refl
kept_at false range x xs r m = refl

pub run_is : (range : Range) (xs : List Item) (m : Mark) → run_at trim_step no_more range xs m ≡ trimmed range (record { items = xs; mark = m })
run_is range [] still_open = refl
run_is range [] whole = refl
run_is range [] broken = refl
run_is range (x ∷ xs) m =
    ap (λ (s : Flow). joined (trim_step range x).made s) (run_is range xs m)
    ∙ (step_at (is_past range.stop (start_ticks x)) (nat_le range.start (start_ticks x)) x (from_start range.start (before_stop range.stop xs))
    (cond (reaches range.stop xs) whole m)
    ∙ kept_at (is_past range.stop (start_ticks x)) range x (before_stop range.stop xs) (reaches range.stop xs) m)

trimmed-is : (range : Range) → ◌≡◌ {A = Flow → Flow} (λ s. run trim_step no_more range s) (λ s. trimmed range s)
trimmed-is range i s = run_is range s.items s.mark i

pub trimmed-below : (range : Range) (r s : Flow) → LiesBelow r s → LiesBelow (trimmed range r) (trimmed range s)
trimmed-below range r s h = subst (λ (f : Flow → Flow). LiesBelow (f r) (f s)) (trimmed-is range) (run_below trim_step no_more range r s h)

pub trimmed-calm : (range : Range) (r : Flow) → LiesBelow (opened (trimmed range r)) (trimmed range (opened r))
trimmed-calm range r = subst (λ (f : Flow → Flow). LiesBelow (opened (f r)) (f (opened r))) (trimmed-is range) (run_calm trim_step no_more range r)

pub trimmed-settles : (range : Range) (r : Flow) → IsClosed r → IsClosed (trimmed range r)
trimmed-settles range r c = subst (λ (f : Flow → Flow). IsClosed (f r)) (trimmed-is range) (run_settles trim_step no_more range r c)

pub trimmed-bare : (range : Range) (m : Mark) → trimmed range (record { items = []; mark = m }) ≡ record { items = []; mark = m }
trimmed-bare range m = refl

next_is : (range : Range) (x : Item) (t : Flow) → closes x ≡ false → trimmed range (before x t) ≡ joined (trim_step range x).made (trimmed range t)
next_is range x t c = subst (λ (f : Flow → Flow). f (before x t) ≡ joined (trim_step range x).made (f t)) (trimmed-is range) (run_next trim_step no_more range x t c)

-- a picture at or past the stop ends it
pub trim_stops : (range : Range) (x : Item) → closes x ≡ false → is_past range.stop (start_ticks x) ≡ true → (t : Flow)
    → trimmed range (before x t) ≡ joined (made_of None Whole) (trimmed range t)
trim_stops range x c past t = next_is range x t c ∙ rw past refl

-- one before it that starts in time is given
pub trim_keeps : (range : Range) (x : Item) → closes x ≡ false → is_past range.stop (start_ticks x) ≡ false → nat_le range.start (start_ticks x) ≡ true → (t : Flow)
    → trimmed range (before x t) ≡ joined (made_of (Some x) More) (trimmed range t)
trim_keeps range x c past late t = next_is range x t c ∙ (rw (past, late) refl ∙ ap (λ (s : Flow). joined s (trimmed range t)) (sym (single x c)))

-- all others aren't
pub trim_skips : (range : Range) (x : Item) → closes x ≡ false → is_past range.stop (start_ticks x) ≡ false → nat_le range.start (start_ticks x) ≡ false → (t : Flow)
    → trimmed range (before x t) ≡ joined (made_of None More) (trimmed range t)
trim_skips range x c past late t = next_is range x t c ∙ rw (past, late) refl
