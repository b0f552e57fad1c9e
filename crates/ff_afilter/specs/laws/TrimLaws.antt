-- The laws of a trim of sound, which goes through a stream frame by frame.
use Rattle.std.specs.Prelude.{◌≡◌, Bool, true, false, cond, Option, Some, None, List, [], ◌∷◌, ◌++◌, refl}
use Rattle.std.proofs.Common.{ap, sym, ◌∙◌, subst}
use Rattle.std.proofs.lemmas.List.{append-nil}
use Rattle.ff_stream.specs.declared.item.Item.{Item}
use Rattle.ff_stream.specs.declared.item.Item.TheVariants.{Audio, Video, Packet, Trailer, End, Broken}
use Rattle.ff_stream.specs.Stream.{Mark, still_open, whole, broken, LiesBelow, opened}
use Rattle.ff_stream.specs.Ports.{IsClosed}
use Rattle.ff_filter.specs.declared.after.After.{After}
use Rattle.ff_filter.specs.declared.range.Range.{Range}
use Rattle.ff_filter.specs.Joins.{Flow, before, joined}
use Rattle.ff_filter.specs.Views.{closes}
use Rattle.ff_filter.specs.Made.{made_of, listed_option}
use Rattle.ff_filter.specs.laws.Limits.{run_next}
use Rattle.ff_filter.specs.laws.Runs.{Stepped, run, run_at, no_more, run_below, run_calm, run_settles}
use Rattle.ff_afilter.specs.Trims.{kept, kept_all, ends_past, reaches, sound_trimmed, after_if}

-- what one frame gives
abbrev pub trim_step : Range → Item → Stepped Range
trim_step range x = record { made = record { items = kept range x; mark = cond (ends_past range x) whole still_open }; next = range }

pub step_at : (a : Bool) (ks xs : List Item) (r : Bool) (m : Mark)
    → ◌≡◌ {A = Flow} (joined (record { items = ks; mark = cond a whole still_open }) (record { items = xs; mark = cond r whole m })) (record { items = ks ++ cond a [] xs; mark = cond (cond a true r) whole m })
step_at true ks xs r m = ap (λ (zs : List Item). let s : Flow = record { items = zs; mark = whole } in s) (sym (append-nil ks))
step_at false ks xs r m = refl

pub run_is : (range : Range) (xs : List Item) (m : Mark) → run_at trim_step no_more range xs m ≡ sound_trimmed range (record { items = xs; mark = m })
run_is range [] still_open = refl
run_is range [] whole = refl
run_is range [] broken = refl
run_is range (x ∷ xs) m = ap (λ (s : Flow). joined (trim_step range x).made s) (run_is range xs m) ∙ step_at (ends_past range x) (kept range x) (kept_all range xs) (reaches range xs) m

trimmed-is : (range : Range) → ◌≡◌ {A = Flow → Flow} (λ s. run trim_step no_more range s) (λ s. sound_trimmed range s)
trimmed-is range i s = run_is range s.items s.mark i

pub trimmed-below : (range : Range) (r s : Flow) → LiesBelow r s → LiesBelow (sound_trimmed range r) (sound_trimmed range s)
trimmed-below range r s h = subst (λ (f : Flow → Flow). LiesBelow (f r) (f s)) (trimmed-is range) (run_below trim_step no_more range r s h)

pub trimmed-calm : (range : Range) (r : Flow) → LiesBelow (opened (sound_trimmed range r)) (sound_trimmed range (opened r))
trimmed-calm range r = subst (λ (f : Flow → Flow). LiesBelow (opened (f r)) (f (opened r))) (trimmed-is range) (run_calm trim_step no_more range r)

pub trimmed-settles : (range : Range) (r : Flow) → IsClosed r → IsClosed (sound_trimmed range r)
trimmed-settles range r c = subst (λ (f : Flow → Flow). IsClosed (f r)) (trimmed-is range) (run_settles trim_step no_more range r c)

pub trimmed-bare : (range : Range) (m : Mark) → sound_trimmed range (record { items = []; mark = m }) ≡ record { items = []; mark = m }
trimmed-bare range m = refl

next_is : (range : Range) (x : Item) (t : Flow) → closes x ≡ false → sound_trimmed range (before x t) ≡ joined (trim_step range x).made (sound_trimmed range t)
next_is range x t c = subst (λ (f : Flow → Flow). f (before x t) ≡ joined (trim_step range x).made (f t)) (trimmed-is range) (run_next trim_step no_more range x t c)

pub made_mark : (b : Bool) (item : Option Item) (opens : (y : Item) → item ≡ Some y → closes y ≡ false) → ◌≡◌ {A = Flow} (record { items = listed_option item; mark = cond b whole still_open }) (made_of item (after_if b))
made_mark true None h = refl
made_mark false None h = refl
made_mark b (Some y) h = at b y (h y refl)
  where
    at : (b : Bool) (y : Item) → closes y ≡ false → ◌≡◌ {A = Flow} (record { items = y ∷ []; mark = cond b whole still_open }) (made_of (Some y) (after_if b))
    at true (Audio f) c = refl
    at false (Audio f) c = refl
    at true (Video f) c = refl
    at false (Video f) c = refl
    at true (Packet f) c = refl
    at false (Packet f) c = refl
    at true (Trailer f) c = refl
    at false (Trailer f) c = refl
    at b End c = cc
    at b Broken c = cc

-- what is given is what is kept, and the output ends where the frame ends at or past the stop
pub trim_gives : (range : Range) (x : Item) (item : Option Item) (after : After) → closes x ≡ false → listed_option item ≡ kept range x → after ≡ after_if (ends_past range x) → ((y : Item) → item ≡ Some y → closes y ≡ false)
    → (t : Flow) → sound_trimmed range (before x t) ≡ joined (made_of item after) (sound_trimmed range t)
trim_gives range x item after c items is opens t =
    next_is range x t c
    ∙ ap (λ (s : Flow). joined s (sound_trimmed range t))
    (ap (λ (ys : List Item). let s : Flow = record { items = ys; mark = cond (ends_past range x) whole still_open } in s) (sym items)
    ∙ (made_mark (ends_past range x) item opens ∙ ap (λ (a : After). made_of item a) (sym is)))
