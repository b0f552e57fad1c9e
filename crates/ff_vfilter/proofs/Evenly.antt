-- The frames at an even rate, frame by frame: the steps give the same as the definition on whole streams.
use Rattle.std.proofs.Common.{◌≡◌, ℕ, zero, suc, ◌+◌, ◌-◌, ◌<◌, ◌≤◌, ◌⊎◌, inl, inr, subst, max, true, false, cond, Some, List, [], ◌∷◌, ◌++◌, refl, ap, sym, ◌∙◌, arith}
use Rattle.std.specs.Prelude.{nat_le}
use Rattle.std.proofs.lemmas.Bool.Decides.{nat_tests}
use Rattle.ff_frame.specs.declared.video.VFrame.{VFrame}
use Rattle.ff_stream.specs.declared.item.Item.{Item}
use Rattle.ff_stream.specs.declared.item.Item.TheVariants.{Audio, Video, Packet, Trailer, End, Broken}
use Rattle.ff_stream.specs.Stream.{Mark, still_open, whole, broken, LiesBelow, opened, opened_mark}
use Rattle.ff_filter.specs.Joins.{Flow}
use Rattle.ff_filter.specs.laws.Runs.{run_at, run_below, run_calm}
use Rattle.ff_vfilter.specs.declared.scale.Scale.{Scale}
use Rattle.ff_vfilter.specs.Rates.{number_of, end_number, shown, pictures_of, shown_at, shown_from, known_below, evenly, even}
use Rattle.ff_vfilter.specs.laws.RateSteps.{shows, Held, rate_step, shows_to_end, rated, none_held}

pub passes : (a b : ℕ) → a ≤ b → nat_le a b ≡ true
passes a b le = grind (arith, nat_tests)

pub fails : (a b : ℕ) → b < a → nat_le a b ≡ false
fails a b lt = grind (arith, nat_tests)

pub at_least_or_below : (a b : ℕ) → (a ≤ b) ⊎ (b < a)
at_least_or_below zero b = inl (omega arith)
at_least_or_below (suc a) zero = inr (omega arith)
at_least_or_below (suc a) (suc b) = elim (at_least_or_below a b) as (λ _. (suc a ≤ suc b) ⊎ (suc b < suc a)) [
  | inl l ↦ inl (omega (arith, l))
  | inr l ↦ inr (omega (arith, l))
]

module _ (s : Scale) where
  -- a frame is shown below the own number of the next one, which is shown from that on
  held_until : (f g : VFrame) (gs : List VFrame) (n c : ℕ) → n + c ≤ number_of s g → shown_from s f (g ∷ gs) n c ≡ shows c n f
  held_until f g gs n zero le = refl
  held_until f g gs n (suc c) le =
      ap (λ b. shown n (cond b (shown_at s n g gs) f) ∷ shown_from s f (g ∷ gs) (n + 1) c) (fails (number_of s g) n (omega (arith, le)))
      ∙ ap (λ (xs : List Item). shown n f ∷ xs) (held_until f g gs (n + 1) c (omega (arith, le)))

  passed : (f g : VFrame) (gs : List VFrame) (n c : ℕ) → number_of s g ≤ n → shown_from s f (g ∷ gs) n c ≡ shown_from s g gs n c
  passed f g gs n zero le = refl
  passed f g gs n (suc c) le =
      ap (λ b. shown n (cond b (shown_at s n g gs) f) ∷ shown_from s f (g ∷ gs) (n + 1) c) (passes (number_of s g) n le)
      ∙ ap (λ (xs : List Item). shown n (shown_at s n g gs) ∷ xs) (passed f g gs (n + 1) c (omega (arith, le)))

  -- the last frame is shown to the end
  held_on : (f : VFrame) (n c : ℕ) → shown_from s f [] n c ≡ shows c n f
  held_on f n zero = refl
  held_on f n (suc c) = ap (λ (xs : List Item). shown n f ∷ xs) (held_on f (n + 1) c)

  split_at : (f : VFrame) (gs : List VFrame) (n a b : ℕ) → shown_from s f gs n (a + b) ≡ shown_from s f gs n a ++ shown_from s f gs (n + a) b
  split_at f gs n zero b = let e : 0 + b ≡ b = omega arith in let k : n + 0 ≡ n = omega arith in rw (e, k) refl
  split_at f gs n (suc a) b =
      let e : suc a + b ≡ suc (a + b) = omega arith in
      let k : n + suc a ≡ (n + 1) + a = omega arith in
      rw (e, k) (ap (λ (xs : List Item). shown n (shown_at s n f gs) ∷ xs) (split_at f gs (n + 1) a b))

  known_above : (f : VFrame) (gs : List VFrame) (m : Mark) → number_of s f ≤ known_below s f gs m
  known_above f [] still_open = omega arith
  known_above f [] whole = omega arith
  known_above f [] broken = omega arith
  known_above f (g ∷ gs) m = omega arith

  -- where the frame that is shown, from number n on, is followed by g: below k all are known
  joins : (f g : VFrame) (gs : List VFrame) (n k : ℕ) → number_of s g ≤ k
      → shows (number_of s g - n) n f ++ shown_from s g gs (max n (number_of s g)) (k - max n (number_of s g)) ≡ shown_from s f (g ∷ gs) n (k - n)
  joins f g gs n k up = elim (at_least_or_below (number_of s g) n) as
      (λ _. shows (number_of s g - n) n f ++ shown_from s g gs (max n (number_of s g)) (k - max n (number_of s g)) ≡ shown_from s f (g ∷ gs) n (k - n)) [
        | inl le ↦ (
            let none : number_of s g - n ≡ 0 = omega (arith, le) in
            let top : max n (number_of s g) ≡ n = omega (arith, le) in
            rw (none, top) (sym (passed f g gs n (k - n) le)))
        | inr lt ↦ (
            let top : max n (number_of s g) ≡ number_of s g = omega (arith, lt) in
            let sum : k - n ≡ (number_of s g - n) + (k - number_of s g) = omega (arith, lt, up) in
            let at : n + (number_of s g - n) ≡ number_of s g = omega (arith, lt) in
            let low : n + (number_of s g - n) ≤ number_of s g = omega (arith, lt) in
            let same : number_of s g ≤ number_of s g = omega arith in
            rw (
              top,
              sum,
              split_at f (g ∷ gs) n (number_of s g - n) (k - number_of s g),
              at,
              held_until f g gs n (number_of s g - n) low,
              passed f g gs (number_of s g) (k - number_of s g) same,
            ) refl)
      ]

  abbrev stream_of : List Item → Mark → Flow
  stream_of xs m = record { items = xs; mark = m }

  abbrev state : VFrame → ℕ → Held
  state f n = record { picture = Some f; number = n }

  ends_so : (f : VFrame) (n : ℕ) (m : Mark) → number_of s f ≤ n
      → run_at (rate_step s) (λ (h : Held). shows_to_end s h.picture h.number) (state f n) [] m ≡ stream_of (shown_from s f [] n (known_below s f [] m - n)) m
  ends_so f n still_open le = let e : number_of s f - n ≡ 0 = omega (arith, le) in rw e refl
  ends_so f n whole le =
      let e : max (number_of s f) (end_number s f) - n ≡ end_number s f - n = omega (arith, le) in
      rw (e, held_on f n (end_number s f - n)) refl
  ends_so f n broken le = let e : number_of s f - n ≡ 0 = omega (arith, le) in rw e refl

  runs_so : (f : VFrame) (n : ℕ) (xs : List Item) (m : Mark) → number_of s f ≤ n
      → run_at (rate_step s) (λ (h : Held). shows_to_end s h.picture h.number) (state f n) xs m
      ≡ stream_of (shown_from s f (pictures_of xs) n (known_below s f (pictures_of xs) m - n)) m
  runs_so f n [] m le = ends_so f n m le
  runs_so f n (Video g ∷ xs) m le =
      let up = known_above g (pictures_of xs) m in
      let low : number_of s g ≤ max n (number_of s g) = omega arith in
      let e : max (number_of s f) (known_below s g (pictures_of xs) m) - n ≡ known_below s g (pictures_of xs) m - n = omega (arith, le) in
      rw (e, runs_so g (max n (number_of s g)) xs m low)
      (ap (λ (ys : List Item). stream_of ys m) (joins f g (pictures_of xs) n (known_below s g (pictures_of xs) m) up))
  runs_so f n (Audio g ∷ xs) m le = runs_so f n xs m le
  runs_so f n (Packet p ∷ xs) m le = runs_so f n xs m le
  runs_so f n (Trailer t ∷ xs) m le = runs_so f n xs m le
  runs_so f n (End ∷ xs) m le = runs_so f n xs m le
  runs_so f n (Broken ∷ xs) m le = runs_so f n xs m le

  starts_so : (xs : List Item) (m : Mark) → run_at (rate_step s) (λ (h : Held). shows_to_end s h.picture h.number) none_held xs m
      ≡ stream_of (evenly s (pictures_of xs) m) m
  starts_so [] still_open = refl
  starts_so [] whole = refl
  starts_so [] broken = refl
  starts_so (Video g ∷ xs) m = runs_so g (number_of s g) xs m (omega arith)
  starts_so (Audio g ∷ xs) m = starts_so xs m
  starts_so (Packet p ∷ xs) m = starts_so xs m
  starts_so (Trailer t ∷ xs) m = starts_so xs m
  starts_so (End ∷ xs) m = starts_so xs m
  starts_so (Broken ∷ xs) m = starts_so xs m

  pub rated_is_even : (t : Flow) → rated s none_held t ≡ even s t
  rated_is_even t = starts_so t.items t.mark

  pub steps_are_even : ◌≡◌ {A = Flow → Flow} (λ t. rated s none_held t) (λ t. even s t)
  steps_are_even i t = rated_is_even t i

  pub even_below : (r t : Flow) → LiesBelow r t → LiesBelow (even s r) (even s t)
  even_below r t h = subst (λ (f : Flow → Flow). LiesBelow (f r) (f t)) steps_are_even
      (run_below (rate_step s) (λ (h : Held). shows_to_end s h.picture h.number) none_held r t h)

  pub even_calm : (t : Flow) → LiesBelow (opened (even s t)) (even s (opened t))
  even_calm t = subst (λ (f : Flow → Flow). LiesBelow (opened (f t)) (f (opened t))) steps_are_even
      (run_calm (rate_step s) (λ (h : Held). shows_to_end s h.picture h.number) none_held t)

-- whoever isn't told of a break sees the same
known_blind : (s : Scale) (f : VFrame) (gs : List VFrame) (m : Mark) → known_below s f gs m ≡ known_below s f gs (opened_mark m)
known_blind s f [] still_open = refl
known_blind s f [] whole = refl
known_blind s f [] broken = refl
known_blind s f (g ∷ gs) m = ap (λ (k : ℕ). max (number_of s f) k) (known_blind s g gs m)

pub evenly_blind : (s : Scale) (fs : List VFrame) (m : Mark) → evenly s fs m ≡ evenly s fs (opened_mark m)
evenly_blind s [] m = refl
evenly_blind s (f ∷ gs) m = ap (λ (k : ℕ). shown_from s f gs (number_of s f) (k - number_of s f)) (known_blind s f gs m)
