-- Of a valid stream the pictures at an even rate are in shape.
use Rattle.std.proofs.Common.{◌≡◌, ℕ, zero, suc, ◌+◌, ◌-◌, max, Some, List, [], ◌∷◌, ◌++◌, length, All, refl, sym, subst, arith}
use Rattle.std.proofs.lemmas.Int.{ints}
use Rattle.std.proofs.lemmas.List.Elements.{All-nil, All-cons, All-head, All-tail}
use Rattle.ff_time.specs.Fraction.{Fraction}
use Rattle.ff_frame.specs.declared.head.StreamHead.TheVariants.{Video as VideoHead}
use Rattle.ff_frame.specs.declared.video.Format.{Format}
use Rattle.ff_frame.specs.declared.video.VFrame.{VFrame}
use Rattle.ff_frame.specs.Heads.{IsPictureOf}
use Rattle.ff_stream.specs.declared.item.Item.{Item}
use Rattle.ff_stream.specs.declared.item.Item.TheVariants.{Audio, Video, Packet, Trailer, End, Broken}
use Rattle.ff_stream.specs.declared.item.Lane.{Lane}
use Rattle.ff_stream.specs.declared.item.Lane.TheVariants.{Frames}
use Rattle.ff_stream.specs.Lanes.{IsItemFor, Follows, InOrder}
use Rattle.ff_stream.specs.Stream.{Mark, still_open, whole, broken}
use Rattle.ff_filter.specs.Joins.{Flow}
use Rattle.ff_filter.specs.laws.Runs.{run_at}
use Rattle.ff_filter.specs.laws.Sound.{IsSound}
use Rattle.ff_vfilter.specs.declared.scale.Scale.{Scale}
use Rattle.ff_vfilter.specs.Rates.{number_of, end_number, shown, even}
use Rattle.ff_vfilter.specs.laws.RateSteps.{Held, shows, shows_to_end, rate_step, rated, none_held}
use Rattle.ff_vfilter.proofs.Evenly.{steps_are_even}

module _ (scale : Scale) (tb base : Fraction) (format : Format) (width height sar_num sar_den : ℕ) where
  abbrev came : Lane
  came = Frames (VideoHead tb format width height sar_num sar_den)

  abbrev given : Lane
  given = Frames (VideoHead base format width height sar_num sar_den)

  abbrev Fits : VFrame → Type 0
  Fits f = IsPictureOf format width height f

  -- pictures of these numbers, from n on
  record IsShown (n : ℕ) (y : Item) : Type 0 where
    picture : VFrame
    is : y ≡ shown n picture
    fits : Fits picture

  abbrev AreNumbered : ℕ → List Item → Type 0
  AreNumbered n [] = Unit {0}
  AreNumbered n (y ∷ ys) = IsShown n y × AreNumbered (n + 1) ys

  numbered_append : (n : ℕ) (xs ys : List Item) → AreNumbered n xs → AreNumbered (n + length xs) ys → AreNumbered n (xs ++ ys)
  numbered_append n [] ys a b = let e : n + 0 ≡ n = omega arith in subst (λ (k : ℕ). AreNumbered k ys) e b
  numbered_append n (x ∷ xs) ys a b =
      let e : n + suc (length xs) ≡ n + 1 + length xs = omega arith in
      (a.0, numbered_append (n + 1) xs ys a.1 (subst (λ (k : ℕ). AreNumbered k ys) e b))

  shows_numbered : (k n : ℕ) (f : VFrame) → Fits f → AreNumbered n (shows k n f)
  shows_numbered zero n f i = tt
  shows_numbered (suc k) n f i = (record { picture = f; is = refl; fits = i }, shows_numbered k (n + 1) f i)

  shows_long : (k n : ℕ) (f : VFrame) → length (shows k n f) ≡ k
  shows_long zero n f = refl
  shows_long (suc k) n f = let h = shows_long k (n + 1) f in omega (arith, h)

  abbrev finish : Held → List Item
  finish g = shows_to_end scale g.picture g.number

  run_numbered : (n : ℕ) (f : VFrame) (xs : List Item) (m : Mark) → Fits f → All (IsItemFor came) xs
      → AreNumbered n (run_at (rate_step scale) finish (record { picture = Some f; number = n }) xs m).items
  run_numbered n f [] still_open i a = tt
  run_numbered n f [] whole i a = shows_numbered (end_number scale f - n) n f i
  run_numbered n f [] broken i a = tt
  run_numbered n f (Audio g ∷ xs) m i a = absurd (All-head (IsItemFor came) (Audio g) xs a).fits
  run_numbered n f (Video g ∷ xs) m i a =
      let q : ℕ = number_of scale g in
      let h = shows_long (q - n) n f in
      let top : max n q ≡ n + length (shows (q - n) n f) = omega (arith, h) in
      numbered_append n (shows (q - n) n f) (run_at (rate_step scale) finish (record { picture = Some g; number = max n q }) xs m).items
      (shows_numbered (q - n) n f i)
      (subst (λ (k : ℕ). AreNumbered k (run_at (rate_step scale) finish (record { picture = Some g; number = max n q }) xs m).items) top
      (run_numbered (max n q) g xs m (All-head (IsItemFor came) (Video g) xs a).fits (All-tail (IsItemFor came) (Video g) xs a)))
  run_numbered n f (Packet p ∷ xs) m i a = absurd (All-head (IsItemFor came) (Packet p) xs a).fits
  run_numbered n f (Trailer t ∷ xs) m i a = absurd (All-head (IsItemFor came) (Trailer t) xs a).fits
  run_numbered n f (End ∷ xs) m i a = absurd (All-head (IsItemFor came) End xs a).fits
  run_numbered n f (Broken ∷ xs) m i a = absurd (All-head (IsItemFor came) Broken xs a).fits

  all_numbered : (xs : List Item) (m : Mark) → All (IsItemFor came) xs → (n : ℕ) × AreNumbered n (run_at (rate_step scale) finish none_held xs m).items
  all_numbered [] still_open a = (0, tt)
  all_numbered [] whole a = (0, tt)
  all_numbered [] broken a = (0, tt)
  all_numbered (Audio g ∷ xs) m a = absurd (All-head (IsItemFor came) (Audio g) xs a).fits
  all_numbered (Video g ∷ xs) m a =
      (number_of scale g, run_numbered (number_of scale g) g xs m (All-head (IsItemFor came) (Video g) xs a).fits (All-tail (IsItemFor came) (Video g) xs a))
  all_numbered (Packet p ∷ xs) m a = absurd (All-head (IsItemFor came) (Packet p) xs a).fits
  all_numbered (Trailer t ∷ xs) m a = absurd (All-head (IsItemFor came) (Trailer t) xs a).fits
  all_numbered (End ∷ xs) m a = absurd (All-head (IsItemFor came) End xs a).fits
  all_numbered (Broken ∷ xs) m a = absurd (All-head (IsItemFor came) Broken xs a).fits

  -- in shape -----------------------------------------------------------------------------------------------------------

  item_so : (n : ℕ) (y : Item) → IsShown n y → IsItemFor given y
  item_so n y s = subst (λ (x : Item). IsItemFor given x) (sym s.is) (record {
    fits = record { format_is = s.fits.format_is; columns_are = s.fits.columns_are; rows_are = s.fits.rows_are; video = s.fits.video };
    not_negative = omega (arith, ints);
    lasts = λ t. omega (arith, ints);
  })

  follows_so : (n : ℕ) (y z : Item) → IsShown n y → IsShown (n + 1) z → Follows given y z
  follows_so n y z s t = subst (λ (x : Item). Follows given x z) (sym s.is) (subst (λ (x : Item). Follows given (shown n s.picture) x) (sym t.is) (record {
    timed = tt;
    starts = λ h. omega (arith, ints);
    ends = λ h. omega (arith, ints);
    apart = λ h. tt;
  }))

  each_so : (n : ℕ) (ys : List Item) → AreNumbered n ys → All (IsItemFor given) ys
  each_so n [] a = All-nil (IsItemFor given)
  each_so n (y ∷ ys) a = All-cons (IsItemFor given) y ys (item_so n y a.0) (each_so (n + 1) ys a.1)

  order_so : (n : ℕ) (ys : List Item) → AreNumbered n ys → InOrder given ys
  order_so n [] a = tt
  order_so n (y ∷ []) a = tt
  order_so n (y ∷ z ∷ ys) a = (follows_so n y z a.0 a.1.0, order_so (n + 1) (z ∷ ys) a.1)

  stays_unbroken : (h : Held) (xs : List Item) (m : Mark) → (run_at (rate_step scale) finish h xs m).mark ≡ m
  stays_unbroken h [] still_open = refl
  stays_unbroken h [] whole = refl
  stays_unbroken h [] broken = refl
  stays_unbroken h (Audio g ∷ xs) m = stays_unbroken h xs m
  stays_unbroken h (Video g ∷ xs) m = stays_unbroken (rate_step scale h (Video g)).next xs m
  stays_unbroken h (Packet p ∷ xs) m = stays_unbroken h xs m
  stays_unbroken h (Trailer t ∷ xs) m = stays_unbroken h xs m
  stays_unbroken h (End ∷ xs) m = stays_unbroken h xs m
  stays_unbroken h (Broken ∷ xs) m = stays_unbroken h xs m

  steps_sound : IsSound came given (λ s. rated scale none_held s)
  steps_sound = record {
    shape = λ s v.
        let a = all_numbered s.items s.mark v.shape.each in
        record { each = each_so a.0 (rated scale none_held s).items a.1; in_order = order_so a.0 (rated scale none_held s).items a.1 };
    unbroken = λ s v u. subst (λ (m : Mark). m ≡ broken → ⊥) (sym (stays_unbroken none_held s.items s.mark)) u;
  }

  pub rate_sound : IsSound came given (λ s. even scale s)
  rate_sound = subst (λ (f : Flow → Flow). IsSound came given f) (steps_are_even scale) steps_sound
