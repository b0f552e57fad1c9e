-- The laws of a trim with a duration, which goes through a stream picture by picture.
use Rattle.std.specs.Prelude.{◌≡◌, ◌≢◌, ℕ, zero, suc, ◌+◌, ◌<◌, Bool, true, false, cond, nat_le, Option, Some, None, List, [], ◌∷◌, refl}
use Rattle.std.proofs.Common.{ap, sym, ◌∙◌, subst, arith}
use Rattle.std.proofs.lemmas.Bool.Decides.{nat_tests}
use Rattle.ff_stream.specs.declared.item.Item.{Item}
use Rattle.ff_stream.specs.Stream.{Mark, still_open, whole, broken, LiesBelow, opened}
use Rattle.ff_stream.specs.Ports.{nothing, IsClosed}
use Rattle.ff_filter.specs.declared.after.After.{After}
use Rattle.ff_filter.specs.declared.after.After.TheVariants.{More}
use Rattle.ff_filter.specs.declared.range.Range.{Range}
use Rattle.ff_filter.specs.Joins.{Flow, before, joined}
use Rattle.ff_filter.specs.Views.{closes}
use Rattle.ff_filter.specs.Made.{made_of}
use Rattle.ff_filter.specs.laws.Limits.{run_next, single}
use Rattle.ff_filter.specs.Ranges.{is_past}
use Rattle.ff_filter.specs.lasting.Lastings.{later_of, stop_that_counts, lasting}
use Rattle.ff_filter.specs.laws.Runs.{Stepped, run, run_at, no_more, run_below, run_calm, run_settles}
use Rattle.ff_filter.specs.Shifts.{start_ticks}
use Rattle.ff_vfilter.specs.Trims.{before_stop, reaches, from_start, trimmed, first_kept, lasting_trimmed}
use Rattle.ff_vfilter.specs.laws.TrimLaws.{trim_step, run_is}

-- a picture while none was kept: the first one at or after the start says where the range stops
abbrev first_step : Bool → Range → ℕ → Item → Stepped (Range × ℕ)
first_step true range k x = record { made = record { items = x ∷ []; mark = still_open }; next = (lasting range (suc k) (Some (start_ticks x)), zero) }
first_step false range k x = record { made = nothing; next = (range, suc k) }

abbrev step_at : Range → ℕ → Item → Stepped (Range × ℕ)
step_at range zero x = record { made = (trim_step range x).made; next = (range, zero) }
step_at range (suc k) x = first_step (nat_le range.start (start_ticks x)) range k x

-- what one picture gives
abbrev lasting_step : Range × ℕ → Item → Stepped (Range × ℕ)
lasting_step s x = step_at s.0 s.1 x

before_later : (stop : Option ℕ) (f k t : ℕ) → t < f + suc k → nat_le (later_of stop (f + suc k)) t ≡ false
before_later None f k t h = grind (arith, nat_tests)
before_later (Some s) f k t h = grind (arith, nat_tests)

earlier_than : (start f k t : ℕ) → nat_le start t ≡ false → nat_le start f ≡ true → t < f + suc k
earlier_than start f k t e g = grind (arith, nat_tests)

-- what starts before the start isn't past the stop
not_past : (start : ℕ) (stop : Option ℕ) (k t : ℕ) (xs : List Item) → nat_le start t ≡ false → is_past (stop_that_counts stop (suc k) (first_kept start xs)) t ≡ false
not_past start stop k t [] e = refl
not_past start stop k t (x ∷ xs) e = at (nat_le start (start_ticks x)) refl (not_past start stop k t xs e)
  where
    at : (b : Bool) → nat_le start (start_ticks x) ≡ b → is_past (stop_that_counts stop (suc k) (first_kept start xs)) t ≡ false
        → is_past (stop_that_counts stop (suc k) (cond b (Some (start_ticks x)) (first_kept start xs))) t ≡ false
    at true f others = before_later stop (start_ticks x) k t (earlier_than start (start_ticks x) k t e f)
    at false f others = others

keeps : (range : Range) (x : Item) (xs : List Item) (m : Mark) → is_past range.stop (start_ticks x) ≡ false → nat_le range.start (start_ticks x) ≡ true
    → trimmed range (record { items = x ∷ xs; mark = m }) ≡ joined (record { items = x ∷ []; mark = still_open }) (trimmed range (record { items = xs; mark = m }))
keeps range x xs m past late = rw (past, late) refl

skips : (range : Range) (x : Item) (xs : List Item) (m : Mark) → is_past range.stop (start_ticks x) ≡ false → nat_le range.start (start_ticks x) ≡ false
    → trimmed range (record { items = x ∷ xs; mark = m }) ≡ trimmed range (record { items = xs; mark = m })
skips range x xs m past late = rw (past, late) refl

-- with no duration it is a trim
plain_is : (range : Range) (xs : List Item) (m : Mark) → run_at lasting_step no_more (range, zero) xs m ≡ run_at trim_step no_more range xs m
plain_is range [] still_open = refl
plain_is range [] whole = refl
plain_is range [] broken = refl
plain_is range (x ∷ xs) m = ap (λ (s : Flow). joined (trim_step range x).made s) (plain_is range xs m)

plain_run : (range : Range) (xs : List Item) (m : Mark) → run_at lasting_step no_more (range, zero) xs m ≡ trimmed range (record { items = xs; mark = m })
plain_run range xs m = plain_is range xs m ∙ run_is range xs m

steps_is : (k : ℕ) (range : Range) (xs : List Item) (m : Mark) → run_at lasting_step no_more (range, k) xs m ≡ lasting_trimmed range k (record { items = xs; mark = m })
steps_is zero range xs m = plain_run range xs m
steps_is (suc k) range [] still_open = refl
steps_is (suc k) range [] whole = refl
steps_is (suc k) range [] broken = refl
steps_is (suc k) range (x ∷ xs) m = at (nat_le range.start (start_ticks x)) refl (steps_is (suc k) range xs m)
  where
    at : (b : Bool) → nat_le range.start (start_ticks x) ≡ b
        → run_at lasting_step no_more (range, suc k) xs m ≡ lasting_trimmed range (suc k) (record { items = xs; mark = m })
        → joined (first_step b range k x).made (run_at lasting_step no_more (first_step b range k x).next xs m)
        ≡ trimmed (lasting range (suc k) (cond b (Some (start_ticks x)) (first_kept range.start xs))) (record { items = x ∷ xs; mark = m })
    at true e others =
        ap (λ (s : Flow). joined (record { items = x ∷ []; mark = still_open }) s) (plain_run (lasting range (suc k) (Some (start_ticks x))) xs m)
        ∙ sym (keeps (lasting range (suc k) (Some (start_ticks x))) x xs m (before_later range.stop (start_ticks x) k (start_ticks x) (omega arith)) e)
    at false e others = others ∙ sym (skips (lasting range (suc k) (first_kept range.start xs)) x xs m (not_past range.start range.stop k (start_ticks x) xs e) e)

lasting-is : (range : Range) (k : ℕ) → ◌≡◌ {A = Flow → Flow} (λ s. run lasting_step no_more (range, k) s) (λ s. lasting_trimmed range k s)
lasting-is range k i s = steps_is k range s.items s.mark i

pub lasting-below : (range : Range) (k : ℕ) (r s : Flow) → LiesBelow r s → LiesBelow (lasting_trimmed range k r) (lasting_trimmed range k s)
lasting-below range k r s h = subst (λ (f : Flow → Flow). LiesBelow (f r) (f s)) (lasting-is range k) (run_below lasting_step no_more (range, k) r s h)

pub lasting-calm : (range : Range) (k : ℕ) (r : Flow) → LiesBelow (opened (lasting_trimmed range k r)) (lasting_trimmed range k (opened r))
lasting-calm range k r = subst (λ (f : Flow → Flow). LiesBelow (opened (f r)) (f (opened r))) (lasting-is range k) (run_calm lasting_step no_more (range, k) r)

pub lasting-settles : (range : Range) (k : ℕ) (r : Flow) → IsClosed r → IsClosed (lasting_trimmed range k r)
lasting-settles range k r c = subst (λ (f : Flow → Flow). IsClosed (f r)) (lasting-is range k) (run_settles lasting_step no_more (range, k) r c)

pub lasting-bare : (range : Range) (k : ℕ) (m : Mark) → lasting_trimmed range k (record { items = []; mark = m }) ≡ record { items = []; mark = m }
lasting-bare range k m = refl

next_is : (range : Range) (k : ℕ) (x : Item) (t : Flow) → closes x ≡ false
    → lasting_trimmed range k (before x t) ≡ joined (step_at range k x).made (lasting_trimmed (step_at range k x).next.0 (step_at range k x).next.1 t)
next_is range k x t c =
    subst (λ (f : Flow → Flow). f (before x t) ≡ joined (step_at range k x).made (run lasting_step no_more (step_at range k x).next t)) (lasting-is range k)
    (run_next lasting_step no_more (range, k) x t c)
    ∙ ap (λ (s : Flow). joined (step_at range k x).made s) (λ i. lasting-is (step_at range k x).next.0 (step_at range k x).next.1 i t)

-- with no duration, or once its end is known, it goes on as a trim
pub lasting_over : (range : Range) (k : ℕ) (x : Item) (item : Option Item) (after : After) → k ≡ 0
    → ((t : Flow) → trimmed range (before x t) ≡ joined (made_of item after) (trimmed range t)) → (t : Flow)
    → lasting_trimmed range k (before x t) ≡ joined (made_of item after) (lasting_trimmed range k t)
lasting_over range zero x item after e h t = h t
lasting_over range (suc k) x item after e h t = cc

-- while none was kept, those before the start aren't given
pub lasting_skips : (range : Range) (k : ℕ) (x : Item) → closes x ≡ false → k ≢ 0 → nat_le range.start (start_ticks x) ≡ false → (t : Flow)
    → lasting_trimmed range k (before x t) ≡ joined (made_of None More) (lasting_trimmed range k t)
lasting_skips range zero x c n late t = absurd (n refl)
lasting_skips range (suc k) x c n late t = next_is range (suc k) x t c ∙ rw late refl

trimmed_by : (range new : Range) (stop : Option ℕ) → new.start ≡ range.start → new.stop ≡ stop → (t : Flow) → trimmed (record range { stop = stop }) t ≡ trimmed new t
trimmed_by range new stop e f t = ap (λ (n : ℕ). at n stop) (sym e) ∙ ap (λ (o : Option ℕ). at new.start o) (sym f)
  where
    at : ℕ → Option ℕ → Flow
    at n o = record { items = from_start n (before_stop o t.items); mark = cond (reaches o t.items) whole t.mark }

-- the first one that starts in time is given, and says where the range stops
pub lasting_starts : (range new : Range) (k : ℕ) (x : Item) → closes x ≡ false → k ≢ 0 → nat_le range.start (start_ticks x) ≡ true → new.start ≡ range.start
    → new.stop ≡ Some (later_of range.stop (start_ticks x + k))
    → (t : Flow) → lasting_trimmed range k (before x t) ≡ joined (made_of (Some x) More) (lasting_trimmed new 0 t)
lasting_starts range new zero x c n late e f t = absurd (n refl)
lasting_starts range new (suc k) x c n late e f t =
    next_is range (suc k) x t c
    ∙ (rw late refl
    ∙ (ap (λ (s : Flow). joined s (trimmed (lasting range (suc k) (Some (start_ticks x))) t)) (sym (single x c))
    ∙ ap (λ (s : Flow). joined (made_of (Some x) More) s) (trimmed_by range new (Some (later_of range.stop (start_ticks x + suc k))) e f t)))
