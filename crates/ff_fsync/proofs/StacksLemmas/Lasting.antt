-- How long a stack is shown, by the last picture of the first input.
use Rattle.std.specs.Prelude.{◌≡◌, ℕ, zero, suc, ◌+◌, ◌-◌, ◌<◌, ◌⊎◌, Bool, true, false, cond, nat_le, List, [], ◌∷◌, ◌++◌, length, refl}
use Rattle.std.proofs.Common.{inl, inr, ap, sym, ◌∙◌, subst, arith, get_or, take}
use Rattle.std.proofs.lemmas.Bool.{or_cases, cases_Bool}
use Rattle.std.proofs.lemmas.List.{map-append}
use Rattle.std.proofs.Math.Seq.{take-suc}
use Rattle.ff_frame.specs.declared.head.StreamHead.{StreamHead}
use Rattle.ff_frame.specs.declared.video.VFrame.{VFrame}
use Rattle.ff_stream.specs.declared.item.Item.{Item}
use Rattle.ff_stream.specs.declared.item.Item.TheVariants.{Video}
use Rattle.ff_stream.specs.declared.item.Lane.TheVariants.{Frames}
use Rattle.ff_stream.specs.Times.{ticks}
use Rattle.ff_stream.specs.Within.{some_pass}
use Rattle.ff_filter.specs.Joins.{Flow, silence, before}
use Rattle.ff_filter.specs.Shifts.{start_ticks}
use Rattle.ff_fsync.specs.declared.input.Input.{Input}
use Rattle.ff_fsync.specs.Events.{events_none}
use Rattle.ff_fsync.specs.laws.Inputs.{items_of, last_by, begun_by}
use Rattle.ff_fsync.specs.Ranges.{list_to}
use Rattle.ff_fsync.specs.laws.Rising.{last_append}
use Rattle.ff_fsync.specs.Sides.{Side, frames_of, shown_as, left_to_show}
use Rattle.ff_fsync.specs.laws.SideLaws.{standing_is}
use Rattle.ff_fsync.specs.Synced.{later_of, pick, is_shown, pictures, horizon, synced_from}
use Rattle.ff_fsync.specs.laws.SyncLaws.{ready_at}
use Rattle.ff_fsync.specs.laws.Syncs.{sides_of, sides_sound, standing_of, timing_of, IsDue, NoneFrom}
use Rattle.ff_fsync.proofs.Finding.{side_there, long_sides}
use Rattle.ff_fsync.proofs.Showing.{shown_gave}
use Rattle.ff_fsync.specs.stacks.Shapes.{lasts}

-- one picture more
pub last_more : (fs : List VFrame) (f : VFrame) (t : ℕ)
    → last_by (items_of (fs ++ f ∷ [])) t ≡ later_of (pick (nat_le (ticks f.pts) t) (Video f)) (last_by (items_of fs) t)
last_more fs f t =
    ap (λ (xs : List Item). last_by xs t) (map-append Video fs (f ∷ []))
    ∙ last_append (λ x. nat_le (start_ticks x) t) (items_of fs) (Video f ∷ [])

pub lasts_more : (fs : List VFrame) (f : VFrame) (t : ℕ) → nat_le (ticks f.pts) t ≡ true
    → lasts t (frames_of (last_by (items_of (fs ++ f ∷ [])) t)) ≡ lasts t (f ∷ [])
lasts_more fs f t e = ap (λ (xs : List Item). lasts t (frames_of xs))
    (last_more fs f t ∙ ap (λ b. later_of (pick b (Video f)) (last_by (items_of fs) t)) e)

pub lasts_still : (fs : List VFrame) (f : VFrame) (t : ℕ) → nat_le (ticks f.pts) t ≡ false
    → lasts t (frames_of (last_by (items_of (fs ++ f ∷ [])) t)) ≡ lasts t (frames_of (last_by (items_of fs) t))
lasts_still fs f t e = ap (λ (xs : List Item). lasts t (frames_of xs))
    (last_more fs f t ∙ ap (λ b. later_of (pick b (Video f)) (last_by (items_of fs) t)) e)

-- one picture more of the first input
pub lasts_next : (fs : List VFrame) (f : VFrame) (t n : ℕ) → n ≡ lasts t (frames_of (last_by (items_of fs) t))
    → cond (nat_le (ticks f.pts) t) (lasts t (f ∷ [])) n ≡ lasts t (frames_of (last_by (items_of (fs ++ f ∷ [])) t))
lasts_next fs f t n e = elim (cases_Bool (nat_le (ticks f.pts) t))
    as (λ _. cond (nat_le (ticks f.pts) t) (lasts t (f ∷ [])) n ≡ lasts t (frames_of (last_by (items_of (fs ++ f ∷ [])) t))) [
      | inl y ↦ ap (λ b. cond b (lasts t (f ∷ [])) n) y ∙ sym (lasts_more fs f t y)
      | inr y ↦ ap (λ b. cond b (lasts t (f ∷ [])) n) y ∙ (e ∙ sym (lasts_still fs f t y))
    ]

pub lasts_at_next : (fs : List VFrame) (i : ℕ) (f : VFrame) (t n : ℕ) → i < length fs → f ≡ get_or fs i f → n ≡ lasts t (frames_of (last_by (items_of (take i fs)) t))
    → cond (nat_le (ticks f.pts) t) (lasts t (f ∷ [])) n ≡ lasts t (frames_of (last_by (items_of (take (i + 1) fs)) t))
lasts_at_next fs i f t n lt e h =
    let one : take (suc i) fs ≡ take i fs ++ f ∷ [] = take-suc fs i f lt ∙ ap (λ (g : VFrame). take i fs ++ g ∷ []) (sym e) in
    let next : suc i ≡ i + 1 = omega arith in
    lasts_next (take i fs) f t n h
    ∙ (ap (λ (gs : List VFrame). lasts t (frames_of (last_by (items_of gs) t))) (sym one) ∙ ap (λ j. lasts t (frames_of (last_by (items_of (take j fs)) t))) next)

later_parts : (xs ys : List Item) → later_of xs ys ≡ [] → (xs ≡ []) × (ys ≡ [])
later_parts [] ys e = (refl, e)
later_parts (x ∷ xs) ys e = cc

-- the last picture by a time, if one is
last_shape : (fs : List VFrame) (t : ℕ) → (last_by (items_of fs) t ≡ []) ⊎ ((f : VFrame) × (last_by (items_of fs) t ≡ Video f ∷ []))
last_shape [] t = inl refl
last_shape (f ∷ fs) t = elim (last_shape fs t) as (λ _. (last_by (items_of (f ∷ fs)) t ≡ []) ⊎ ((g : VFrame) × (last_by (items_of (f ∷ fs)) t ≡ Video g ∷ []))) [
  | inl e ↦ at (nat_le (ticks f.pts) t) (last_by (items_of fs) t) e
  | inr g ↦ inr (g.0, ap (λ (xs : List Item). later_of xs (pick (nat_le (ticks f.pts) t) (Video f))) g.1)
]
  where
    at : (b : Bool) (xs : List Item) → xs ≡ [] → (later_of xs (pick b (Video f)) ≡ []) ⊎ ((g : VFrame) × (later_of xs (pick b (Video f)) ≡ Video g ∷ []))
    at true xs e = inr (f, ap (λ (ys : List Item). later_of ys (Video f ∷ [])) e)
    at false xs e = inl (ap (λ (ys : List Item). later_of ys []) e)

begun_last : (fs : List VFrame) (t : ℕ) → begun_by (items_of fs) t ≡ true → last_by (items_of fs) t ≡ [] → ⊥
begun_last [] t b e = cc
begun_last (f ∷ fs) t b e =
    let p = later_parts (last_by (items_of fs) t) (pick (nat_le (ticks f.pts) t) (Video f)) e in
    elim (or_cases (nat_le (ticks f.pts) t) (begun_by (items_of fs) t) b) as (λ _. ⊥) [
      | inl here ↦ (let one : Video f ∷ [] ≡ [] = sym (ap (λ c. pick c (Video f)) here) ∙ p.1 in cc)
      | inr there ↦ begun_last fs t there p.0
    ]

pub last_one : (fs : List VFrame) (t : ℕ) → begun_by (items_of fs) t ≡ true → (f : VFrame) × (last_by (items_of fs) t ≡ Video f ∷ [])
last_one fs t b = elim (last_shape fs t) as (λ _. (f : VFrame) × (last_by (items_of fs) t ≡ Video f ∷ [])) [
  | inl e ↦ absurd (begun_last fs t b e)
  | inr g ↦ g
]

-- what is listed of all inputs begins with what the first has
list_first : (n : ℕ) (g : ℕ → List Item) (x : Item) → g 0 ≡ x ∷ [] → 0 < n → (ys : List Item) × (list_to n g ≡ x ∷ ys)
list_first zero g x e lt = absurd (omega (arith, lt))
list_first (suc zero) g x e lt = ([], e)
list_first (suc (suc n)) g x e lt =
    let r = list_first (suc n) g x e (omega arith) in
    (r.0 ++ g (suc n), ap (λ (xs : List Item). xs ++ g (suc n)) r.1)

lasts_first : (t : ℕ) (xs : List Item) (f : VFrame) (ys : List Item) → xs ≡ Video f ∷ ys → lasts t (frames_of xs) ≡ lasts t (f ∷ [])
lasts_first t xs f ys e = ap (λ (zs : List Item). lasts t (frames_of zs)) e

module _ (head : StreamHead) (shortest : Bool) (is : List Input) where
  -- how long what is due is shown goes by the first input
  pub lasts_due : (from t : ℕ) (i : Input) → IsDue (timing_of shortest is) from (standing_of head is) t → 0 < length is → i ≡ get_or is 0 i
      → lasts t (frames_of (last_by (items_of i.queue.items) t)) ≡ lasts t (frames_of (pictures (timing_of shortest is) (standing_of head is) t))
  lasts_due from t i due lt e =
      let long = long_sides is in
      let there = side_there (Frames head) is 0 i lt e in
      let b : begun_by (items_of i.queue.items) t ≡ true =
      ap (λ (s : Side). begun_by s.waits t) (sym there) ∙ (ready_at (timing_of shortest is) (standing_of head is) t due.shown 0 (omega (arith, lt, long))).0 in
      let last = last_one i.queue.items t b in
      let g : ℕ → List Item = λ p. last_by (standing_of head is p).items t in
      let first = list_first (length (sides_of is)) g (Video last.0) (ap (λ (s : Side). last_by s.waits t) there ∙ last.1) (omega (arith, lt, long)) in
      lasts_first t (last_by (items_of i.queue.items) t) last.0 [] last.1
      ∙ sym (lasts_first t (pictures (timing_of shortest is) (standing_of head is) t) last.0 first.0 first.1)

  pub lasts_none : (from t : ℕ) → IsDue (timing_of shortest is) from (standing_of head is) t → is ≡ []
      → 1 ≡ lasts t (frames_of (pictures (timing_of shortest is) (standing_of head is) t))
  lasts_none from t due e = subst (λ (js : List Input). 1 ≡ lasts t (frames_of (pictures (timing_of shortest js) (standing_of head js) t))) (sym e) refl

  module _ (shows : ℕ → List VFrame → VFrame) (passes : ℕ → Item → Bool) where
    some_before : (n : ℕ) (f : VFrame) (s t : Flow) → s ≡ before (Video f) t
        → some_pass passes n s.items ≡ cond (passes n (Video f)) true (some_pass passes (n + 1) t.items)
    some_before n f s t e = ap (λ (u : Flow). some_pass passes n u.items) e

    -- of what is due, the next picture and then the others
    pub cut_next : (from t n : ℕ) → IsDue (timing_of shortest is) from (standing_of head is) t
        → some_pass passes n (left_to_show shows shortest (Frames head) from (sides_of is) silence).items
        ≡ cond (passes n (shown_as shows t (pictures (timing_of shortest is) (standing_of head is) t))) true
        (some_pass passes (n + 1) (left_to_show shows shortest (Frames head) (suc t) (sides_of is) silence).items)
    cut_next from t n due =
        let f : VFrame = shows t (frames_of (pictures (timing_of shortest is) (standing_of head is) t)) in
        let g = shown_gave shows shortest (Frames head) (sides_of is) (sides_sound (Frames head) is) from t false false f refl due refl in
        some_before n f (left_to_show shows shortest (Frames head) from (sides_of is) silence)
        (left_to_show shows shortest (Frames head) (suc t) (sides_of is) silence) (g.rest_here silence)

    -- where nothing is due, nothing passes a limit
    pub cut_none : (from n : ℕ) → NoneFrom head shortest is from
        → some_pass passes n (left_to_show shows shortest (Frames head) from (sides_of is) silence).items ≡ false
    cut_none from n none =
        let k = timing_of shortest is in
        ap (λ (ss : ℕ → Flow). some_pass passes n (synced_from k (shown_as shows) from ss).items) (standing_is (Frames head) (sides_of is))
        ∙ ap (λ (xs : List Item). some_pass passes n xs)
        (events_none (is_shown k (standing_of head is)) (λ t. shown_as shows t (pictures k (standing_of head is) t)) from (horizon k (standing_of head is) - from) none)

pub none_there : (is : List Input) → length is ≡ 0 → is ≡ []
none_there [] e = refl
none_there (i ∷ is) e = absurd (omega (arith, e))
