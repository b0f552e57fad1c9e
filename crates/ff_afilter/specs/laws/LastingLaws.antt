-- The laws of a trim of sound with a duration, which goes through a stream frame by frame.
use Rattle.std.specs.Prelude.{◌≡◌, ◌≢◌, ℕ, zero, suc, ◌+◌, ◌-◌, ◌<◌, ◌≤◌, max, Bool, true, false, cond, nat_lt, nat_le, Option, Some, None, List, [], ◌∷◌, refl}
use Rattle.std.proofs.Common.{ap, sym, ◌∙◌, subst, arith}
use Rattle.std.proofs.lemmas.Bool.Decides.{nat_tests}
use Rattle.ff_frame.specs.declared.audio.AFrame.{AFrame}
use Rattle.ff_stream.specs.declared.item.Item.{Item}
use Rattle.ff_stream.specs.declared.item.Item.TheVariants.{Audio, Video, Packet, Trailer, End, Broken}
use Rattle.ff_stream.specs.Stream.{Mark, still_open, whole, broken, LiesBelow, opened}
use Rattle.ff_stream.specs.Ports.{IsClosed}
use Rattle.ff_stream.specs.Times.{ticks}
use Rattle.ff_filter.specs.declared.after.After.{After}
use Rattle.ff_filter.specs.declared.after.After.TheVariants.{More}
use Rattle.ff_filter.specs.declared.range.Range.{Range}
use Rattle.ff_filter.specs.Joins.{Flow, before, joined}
use Rattle.ff_filter.specs.Views.{closes}
use Rattle.ff_filter.specs.Made.{made_of, listed_option}
use Rattle.ff_filter.specs.laws.Limits.{run_next, single}
use Rattle.ff_filter.specs.Ranges.{is_past}
use Rattle.ff_filter.specs.lasting.Lastings.{later_of, stop_that_counts, lasting, range_same}
use Rattle.ff_filter.specs.laws.Runs.{Stepped, run, run_at, no_more, run_below, run_calm, run_settles}
use Rattle.ff_filter.specs.Shifts.{start_ticks}
use Rattle.ff_afilter.specs.Trims.{count_of, before_stop, kept, ends_past, sound_trimmed, after_if, ends_after, first_kept, sound_lasting}
use Rattle.ff_afilter.specs.laws.TrimLaws.{trim_step, run_is, trim_gives}

-- nothing of a frame, and all of what isn't one
abbrev others : Item → List Item
others (Audio f) = []
others (Video f) = Video f ∷ []
others (Packet p) = Packet p ∷ []
others (Trailer t) = Trailer t ∷ []
others End = []
others Broken = []

-- the range from the first frame kept on
abbrev found : Range → ℕ → Item → Range
found range k x = lasting range (suc k) (Some (max range.start (start_ticks x)))

-- a frame while none was kept: the first one that ends after the start says where the range stops
abbrev first_step : Bool → Range → ℕ → Item → Stepped (Range × ℕ)
first_step true range k x = record { made = (trim_step (found range k x) x).made; next = (found range k x, zero) }
first_step false range k x = record { made = record { items = others x; mark = still_open }; next = (range, suc k) }

abbrev step_at : Range → ℕ → Item → Stepped (Range × ℕ)
step_at range zero x = record { made = (trim_step range x).made; next = (range, zero) }
step_at range (suc k) x = first_step (ends_after range.start x) range k x

-- what one frame gives
abbrev lasting_step : Range × ℕ → Item → Stepped (Range × ℕ)
lasting_step s x = step_at s.0 s.1 x

before_later : (stop : Option ℕ) (f k t : ℕ) → t < f + suc k → nat_le (later_of stop (f + suc k)) t ≡ false
before_later None f k t h = grind (arith, nat_tests)
before_later (Some s) f k t h = grind (arith, nat_tests)

earlier_than : (start p k t : ℕ) → nat_lt start t ≡ false → t < max start p + suc k
earlier_than start p k t e = grind (arith, nat_tests)

-- what ends at the start or before doesn't end past the stop
not_past : (start : ℕ) (stop : Option ℕ) (k t : ℕ) (xs : List Item) → nat_lt start t ≡ false → is_past (stop_that_counts stop (suc k) (first_kept start xs)) t ≡ false
not_past start stop k t [] e = refl
not_past start stop k t (x ∷ xs) e = at (ends_after start x) (not_past start stop k t xs e)
  where
    at : (b : Bool) → is_past (stop_that_counts stop (suc k) (first_kept start xs)) t ≡ false
        → is_past (stop_that_counts stop (suc k) (cond b (Some (max start (start_ticks x))) (first_kept start xs))) t ≡ false
    at true others = before_later stop (max start (start_ticks x)) k t (earlier_than start (start_ticks x) k t e)
    at false others = others

goes_on : (range : Range) (k : ℕ) (x : Item) (xs : List Item) → ends_after range.start x ≡ false → ends_past (lasting range (suc k) (first_kept range.start xs)) x ≡ false
goes_on range k (Audio f) xs e = not_past range.start range.stop k (ticks f.pts + count_of f) xs e
goes_on range k (Video f) xs e = refl
goes_on range k (Packet f) xs e = refl
goes_on range k (Trailer f) xs e = refl
goes_on range k End xs e = refl
goes_on range k Broken xs e = refl

within : (stop : Option ℕ) (p n : ℕ) → before_stop stop p n ≤ n
within None p n = omega arith
within (Some stop) p n = omega arith

no_part : (start p n until : ℕ) → nat_lt start (p + n) ≡ false → until ≤ n → nat_lt (start - p) until ≡ false
no_part start p n until e h = grind (arith, nat_tests)

not_kept : (range : Range) (x : Item) → ends_after range.start x ≡ false → kept range x ≡ others x
not_kept range (Audio f) e = rw (no_part range.start (ticks f.pts) (count_of f) (before_stop range.stop (ticks f.pts) (count_of f)) e (within range.stop (ticks f.pts) (count_of f))) refl
not_kept range (Video f) e = refl
not_kept range (Packet f) e = refl
not_kept range (Trailer f) e = refl
not_kept range End e = refl
not_kept range Broken e = refl

-- with no duration it is a trim
plain_is : (range : Range) (xs : List Item) (m : Mark) → run_at lasting_step no_more (range, zero) xs m ≡ run_at trim_step no_more range xs m
plain_is range [] still_open = refl
plain_is range [] whole = refl
plain_is range [] broken = refl
plain_is range (x ∷ xs) m = ap (λ (s : Flow). joined (trim_step range x).made s) (plain_is range xs m)

step_of : (range : Range) (x : Item) → ends_past range x ≡ false → kept range x ≡ others x → (trim_step range x).made ≡ record { items = others x; mark = still_open }
step_of range x e k = ap (λ (b : Bool). let s : Flow = record { items = kept range x; mark = cond b whole still_open } in s) e
    ∙ ap (λ (ys : List Item). let s : Flow = record { items = ys; mark = still_open } in s) k

next_run : (range : Range) (x : Item) (xs : List Item) (m : Mark) → joined (trim_step range x).made (sound_trimmed range (record { items = xs; mark = m })) ≡ sound_trimmed range (record { items = x ∷ xs; mark = m })
next_run range x xs m = ap (λ (s : Flow). joined (trim_step range x).made s) (sym (run_is range xs m)) ∙ run_is range (x ∷ xs) m

plain_run : (range : Range) (xs : List Item) (m : Mark) → run_at lasting_step no_more (range, zero) xs m ≡ sound_trimmed range (record { items = xs; mark = m })
plain_run range xs m = plain_is range xs m ∙ run_is range xs m

steps_is : (k : ℕ) (range : Range) (xs : List Item) (m : Mark) → run_at lasting_step no_more (range, k) xs m ≡ sound_lasting range k (record { items = xs; mark = m })
steps_is zero range xs m = plain_run range xs m
steps_is (suc k) range [] still_open = refl
steps_is (suc k) range [] whole = refl
steps_is (suc k) range [] broken = refl
steps_is (suc k) range (x ∷ xs) m = at (ends_after range.start x) refl (steps_is (suc k) range xs m)
  where
    at : (b : Bool) → ends_after range.start x ≡ b → run_at lasting_step no_more (range, suc k) xs m ≡ sound_lasting range (suc k) (record { items = xs; mark = m })
        → joined (first_step b range k x).made (run_at lasting_step no_more (first_step b range k x).next xs m)
        ≡ sound_trimmed (lasting range (suc k) (cond b (Some (max range.start (start_ticks x))) (first_kept range.start xs))) (record { items = x ∷ xs; mark = m })
    at true e others = ap (λ (s : Flow). joined (trim_step (found range k x) x).made s) (plain_run (found range k x) xs m) ∙ next_run (found range k x) x xs m
    at false e others =
        let q : Range = lasting range (suc k) (first_kept range.start xs) in
        ap (λ (s : Flow). joined s (run_at lasting_step no_more (range, suc k) xs m)) (sym (step_of q x (goes_on range k x xs e) (not_kept q x e)))
        ∙ (ap (λ (s : Flow). joined (trim_step q x).made s) others ∙ next_run q x xs m)

lasting-is : (range : Range) (k : ℕ) → ◌≡◌ {A = Flow → Flow} (λ s. run lasting_step no_more (range, k) s) (λ s. sound_lasting range k s)
lasting-is range k i s = steps_is k range s.items s.mark i

pub lasting-below : (range : Range) (k : ℕ) (r s : Flow) → LiesBelow r s → LiesBelow (sound_lasting range k r) (sound_lasting range k s)
lasting-below range k r s h = subst (λ (f : Flow → Flow). LiesBelow (f r) (f s)) (lasting-is range k) (run_below lasting_step no_more (range, k) r s h)

pub lasting-calm : (range : Range) (k : ℕ) (r : Flow) → LiesBelow (opened (sound_lasting range k r)) (sound_lasting range k (opened r))
lasting-calm range k r = subst (λ (f : Flow → Flow). LiesBelow (opened (f r)) (f (opened r))) (lasting-is range k) (run_calm lasting_step no_more (range, k) r)

pub lasting-settles : (range : Range) (k : ℕ) (r : Flow) → IsClosed r → IsClosed (sound_lasting range k r)
lasting-settles range k r c = subst (λ (f : Flow → Flow). IsClosed (f r)) (lasting-is range k) (run_settles lasting_step no_more (range, k) r c)

pub lasting-bare : (range : Range) (k : ℕ) (m : Mark) → sound_lasting range k (record { items = []; mark = m }) ≡ record { items = []; mark = m }
lasting-bare range k m = refl

next_is : (range : Range) (k : ℕ) (x : Item) (t : Flow) → closes x ≡ false → sound_lasting range k (before x t) ≡ joined (step_at range k x).made (sound_lasting (step_at range k x).next.0 (step_at range k x).next.1 t)
next_is range k x t c =
    subst (λ (f : Flow → Flow). f (before x t) ≡ joined (step_at range k x).made (run lasting_step no_more (step_at range k x).next t)) (lasting-is range k)
    (run_next lasting_step no_more (range, k) x t c)
    ∙ ap (λ (s : Flow). joined (step_at range k x).made s) (λ i. lasting-is (step_at range k x).next.0 (step_at range k x).next.1 i t)

-- with no duration, or once its end is known, it goes on as a trim
pub lasting_over : (range : Range) (k : ℕ) (x : Item) (item : Option Item) (after : After) → k ≡ 0 → closes x ≡ false → listed_option item ≡ kept range x → after ≡ after_if (ends_past range x)
    → ((y : Item) → item ≡ Some y → closes y ≡ false) → (t : Flow) → sound_lasting range k (before x t) ≡ joined (made_of item after) (sound_lasting range k t)
lasting_over range zero x item after e c is a opens t = trim_gives range x item after c is a opens t
lasting_over range (suc k) x item after e c is a opens t = cc

-- the item isn't a frame of sound
abbrev is_other : Item → Bool
is_other (Audio f) = false
is_other (Video f) = true
is_other (Packet p) = true
is_other (Trailer t) = true
is_other End = true
is_other Broken = true

other_goes : (range : Range) (k : ℕ) (x : Item) → closes x ≡ false → is_other x ≡ true → (t : Flow) → sound_lasting range k (before x t) ≡ joined (record { items = x ∷ []; mark = still_open }) (sound_lasting range k t)
other_goes range k (Audio f) c o t = cc
other_goes range zero (Video f) c o t = next_is range zero (Video f) t c
other_goes range (suc k) (Video f) c o t = next_is range (suc k) (Video f) t c
other_goes range zero (Packet f) c o t = next_is range zero (Packet f) t c
other_goes range (suc k) (Packet f) c o t = next_is range (suc k) (Packet f) t c
other_goes range zero (Trailer f) c o t = next_is range zero (Trailer f) t c
other_goes range (suc k) (Trailer f) c o t = next_is range (suc k) (Trailer f) t c
other_goes range k End c o t = cc
other_goes range k Broken c o t = cc

-- what isn't a frame of sound is given as it came
pub lasting_passes : (range : Range) (k : ℕ) (x : Item) (item : Option Item) (after : After) → closes x ≡ false → is_other x ≡ true → item ≡ Some x → after ≡ More
    → (t : Flow) → sound_lasting range k (before x t) ≡ joined (made_of item after) (sound_lasting range k t)
lasting_passes range k x item after c o is a t =
    other_goes range k x c o t
    ∙ ap (λ (s : Flow). joined s (sound_lasting range k t)) (sym (single x c) ∙ (ap (λ (i : Option Item). made_of i More) (sym is) ∙ ap (λ (b : After). made_of item b) (sym a)))

-- while none was kept, those that end at the start or before aren't given
pub lasting_skips : (range : Range) (k : ℕ) (f : AFrame) → k ≢ 0 → nat_lt range.start (ticks f.pts + count_of f) ≡ false
    → (t : Flow) → sound_lasting range k (before (Audio f) t) ≡ joined (made_of None More) (sound_lasting range k t)
lasting_skips range zero f n late t = absurd (n refl)
lasting_skips range (suc k) f n late t = next_is range (suc k) (Audio f) t refl ∙ rw late refl

first_run : (range : Range) (k : ℕ) (f : AFrame) → nat_lt range.start (ticks f.pts + count_of f) ≡ true → (t : Flow) → sound_lasting range (suc k) (before (Audio f) t) ≡ sound_trimmed (found range k (Audio f)) (before (Audio f) t)
first_run range k f late t = ap (λ (b : Bool). sound_trimmed (lasting range (suc k) (cond b (Some (max range.start (ticks f.pts))) (first_kept range.start t.items))) (before (Audio f) t)) late

-- the first one that ends after the start says where the range stops
pub lasting_starts : (range new : Range) (k : ℕ) (f : AFrame) (item : Option Item) (after : After) → k ≢ 0 → nat_lt range.start (ticks f.pts + count_of f) ≡ true
    → new.start ≡ range.start → new.stop ≡ Some (later_of range.stop (max range.start (ticks f.pts) + k))
    → listed_option item ≡ kept new (Audio f) → after ≡ after_if (ends_past new (Audio f)) → ((y : Item) → item ≡ Some y → closes y ≡ false)
    → (t : Flow) → sound_lasting range k (before (Audio f) t) ≡ joined (made_of item after) (sound_lasting new 0 t)
lasting_starts range new zero f item after n late e g is a opens t = absurd (n refl)
lasting_starts range new (suc k) f item after n late e g is a opens t =
    first_run range k f late t
    ∙ (ap (λ (r : Range). sound_trimmed r (before (Audio f) t)) (sym (range_same new range.start (Some (later_of range.stop (max range.start (ticks f.pts) + suc k))) range.near e g))
    ∙ trim_gives new (Audio f) item after refl is a opens t)
