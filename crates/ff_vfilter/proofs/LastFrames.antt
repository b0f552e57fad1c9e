-- At an even rate of a valid stream number n shows the last frame whose own number is at most n.
use Rattle.std.proofs.Common.{◌≡◌, ℕ, zero, suc, ◌+◌, ◌*◌, ◌/◌, ◌^◌, ◌<◌, ◌≤◌, ℤ, pos, negsuc, ◌+ℤ◌, ◌<ℤ◌, ◌≤ℤ◌, ◌⊎◌, inl, inr}
use Rattle.std.proofs.Common.{subst, min, cond, List, [], ◌∷◌, All, refl, ap, sym, ◌∙◌, arith}
use Rattle.std.proofs.lemmas.Nat.{le-div}
use Rattle.std.proofs.Math.Nat.{div-mul-le_self, mul-le-mul_right}
use Rattle.ff_time.specs.Fraction.{Fraction, IsBase}
use Rattle.ff_time.specs.Rescale.{IsRescaled, IsRounded}
use Rattle.ff_time.proofs.Nearest.{IsNearest-size_pos}
use Rattle.ff_frame.specs.declared.video.Format.{Format}
use Rattle.ff_frame.specs.declared.video.VFrame.{VFrame}
use Rattle.ff_frame.specs.declared.head.StreamHead.TheVariants.{Video as VideoHead}
use Rattle.ff_stream.specs.declared.item.Item.{Item}
use Rattle.ff_stream.specs.declared.item.Item.TheVariants.{Audio, Video, Packet, Trailer, End, Broken}
use Rattle.ff_stream.specs.declared.item.Lane.{Lane}
use Rattle.ff_stream.specs.declared.item.Lane.TheVariants.{Frames}
use Rattle.ff_stream.specs.Stream.{Mark, still_open, whole, broken}
use Rattle.ff_stream.specs.Times.{ticks}
use Rattle.ff_stream.specs.Lanes.{InOrder, IsItemFor, IsValid, Follows}
use Rattle.ff_filter.specs.Joins.{Flow}
use Rattle.ff_vfilter.specs.declared.scale.Scale.{Scale}
use Rattle.ff_vfilter.specs.Rates.{nearest, in_pictures, number_of, end_number, pictures_of, shown_at, known_below}
use Rattle.ff_vfilter.specs.laws.LastFrames.{last_by, last_number}
use Rattle.ff_vfilter.proofs.Evenly.{passes, fails, at_least_or_below}

module _ (s : Scale) where
  -- own numbers don't fall, and none is above that of the frame's end
  abbrev RunsFrom : ℕ → List VFrame → Type 0
  RunsFrom t [] = Unit {0}
  RunsFrom t (f ∷ fs) = (t ≤ number_of s f) × (number_of s f ≤ end_number s f) × RunsFrom (number_of s f) fs

  not_yet : (f : VFrame) (n t : ℕ) (gs : List VFrame) → n < t → RunsFrom t gs → last_by s n f gs ≡ f
  not_yet f n t [] lt r = refl
  not_yet f n t (g ∷ gs) lt r =
      ap (λ b. last_by s n (cond b g f) gs) (fails (number_of s g) n (omega (arith, lt, r.0)))
      ∙ not_yet f n (number_of s g) gs (omega (arith, lt, r.0)) r.2

  shown_last : (f : VFrame) (n t : ℕ) (gs : List VFrame) → RunsFrom t gs → shown_at s n f gs ≡ last_by s n f gs
  shown_last f n t [] r = refl
  shown_last f n t (g ∷ gs) r = elim (at_least_or_below (number_of s g) n) as (λ _. shown_at s n f (g ∷ gs) ≡ last_by s n f (g ∷ gs)) [
    | inl le ↦ rw (passes (number_of s g) n le) (shown_last g n (number_of s g) gs r.2)
    | inr lt ↦ rw (fails (number_of s g) n lt) (sym (not_yet f n (number_of s g) gs lt r.2))
  ]

  last_above : (f : VFrame) (gs : List VFrame) (m : Mark) → number_of s f ≤ end_number s f → RunsFrom (number_of s f) gs → number_of s f ≤ last_number s f gs m
  last_above f [] still_open le r = omega arith
  last_above f [] whole le r = le
  last_above f [] broken le r = omega arith
  last_above f (g ∷ gs) m le r = let up = last_above g gs m r.1 r.2 in let first = r.0 in omega (arith, first, up)

  known_last : (f : VFrame) (gs : List VFrame) (m : Mark) → number_of s f ≤ end_number s f → RunsFrom (number_of s f) gs → known_below s f gs m ≡ last_number s f gs m
  known_last f [] still_open le r = refl
  known_last f [] whole le r = omega (arith, le)
  known_last f [] broken le r = refl
  known_last f (g ∷ gs) m le r =
      let up = last_above g gs m r.1 r.2 in
      let first = r.0 in
      let same = known_last g gs m r.1 r.2 in
      omega (arith, first, up, same)

-- numbers go by times -----------------------------------------------------------------------------------------------

div_keeps : (a b d : ℕ) → 0 < d → a ≤ b → a / d ≤ b / d
div_keeps a b d z le = let h = div-mul-le_self a d in le-div (a / d) b d z (omega (arith, h, le))

number_keeps : (s : Scale) → IsBase s.from → IsBase s.to → (t u : ℕ) → t ≤ u → in_pictures s t ≤ in_pictures s u
number_keeps s a b t u le =
    let scale : ℕ = s.from.num * s.to.den in
    let unit : ℕ = s.from.den * s.to.num in
    let some : 0 < unit = positive s.from.den s.to.num a.den_positive b.num_positive in
    let product : t * scale ≤ u * scale = mul-le-mul_right scale le in
    let near : nearest (t * scale) unit ≤ nearest (u * scale) unit =
    div_keeps (2 * (t * scale) + unit) (2 * (u * scale) + unit) (2 * unit) (omega (arith, some)) (omega (arith, product)) in
    least (nearest (t * scale) unit) (nearest (u * scale) unit) (2 ^ 62) near
  where
    positive : (x y : ℕ) → 0 < x → 0 < y → 0 < x * y
    positive zero y p q = absurd (omega (arith, p))
    positive (suc x) zero p q = absurd (omega (arith, q))
    positive (suc x) (suc y) p q = grind arith

    least : (x y k : ℕ) → x ≤ y → min x k ≤ min y k
    least x y k h = omega (arith, h)

-- it is the time rescaled to the nearest number, halves upwards
pub number_rescaled : (from to : Fraction) → IsBase from → IsBase to → (t : ℕ) → IsRescaled (pos t) from to (pos (nearest (t * (from.num * to.den)) (from.den * to.num)))
number_rescaled from to a b t =
    IsNearest-size_pos (pos t) (pos (nearest (t * (from.num * to.den)) (from.den * to.num))) (from.num * to.den) (from.den * to.num) t
    (nearest (t * (from.num * to.den)) (from.den * to.num)) refl refl
    (rounds (t * (from.num * to.den)) (from.den * to.num) (positive from.den to.num a.den_positive b.num_positive))
  where
    positive : (x y : ℕ) → 0 < x → 0 < y → 0 < x * y
    positive zero y p q = absurd (omega (arith, p))
    positive (suc x) zero p q = absurd (omega (arith, q))
    positive (suc x) (suc y) p q = grind arith

    twice : (r q : ℕ) → r * (2 * q) ≡ 2 * (r * q)
    twice r q = grind arith

    rounds : (p q : ℕ) → 0 < q → IsRounded p q (nearest p q)
    rounds p q z =
        let r : ℕ = nearest p q in
        let low : r * (2 * q) ≤ 2 * p + q = div-mul-le_self (2 * p + q) (2 * q) in
        let same : r * (2 * q) ≡ 2 * (r * q) = twice r q in
        record { some = z; low = omega (arith, low, same); high = above p q r z refl }
      where
        above : (p q r : ℕ) → 0 < q → r ≡ nearest p q → 2 * p + q < 2 * (r * q) + 2 * q
        above p q r z e = at (cases (2 * (r * q) + 2 * q) (2 * p + q))
          where
            cases : (x y : ℕ) → (y < x) ⊎ (x ≤ y)
            cases x zero = first x
              where
                first : (x : ℕ) → (0 < x) ⊎ (x ≤ 0)
                first zero = inr (omega arith)
                first (suc x) = inl (omega arith)
            cases zero (suc y) = inr (omega arith)
            cases (suc x) (suc y) = elim (cases x y) as (λ _. (suc y < suc x) ⊎ (suc x ≤ suc y)) [ inl l ↦ inl (omega (arith, l)) | inr l ↦ inr (omega (arith, l)) ]

            at : (2 * p + q < 2 * (r * q) + 2 * q) ⊎ (2 * (r * q) + 2 * q ≤ 2 * p + q) → 2 * p + q < 2 * (r * q) + 2 * q
            at (inl l) = l
            at (inr l) =
                let one : (r + 1) * (2 * q) ≡ 2 * (r * q) + 2 * q = grind arith in
                let more : r + 1 ≤ nearest p q = le-div (r + 1) (2 * p + q) (2 * q) (omega (arith, z)) (omega (arith, one, l)) in
                absurd (omega (arith, more, e))

-- of a valid stream, numbers don't fall ----------------------------------------------------------------------------

ticks_keep : (a b : ℤ) → a ≤ℤ b → ticks a ≤ ticks b
ticks_keep (pos a) (pos b) h = grind (arith)
ticks_keep (pos a) (negsuc b) h = grind (arith)
ticks_keep (negsuc a) b h = omega arith

less_or : (a b : ℤ) → a <ℤ b → a ≤ℤ b
less_or a b h = grind (arith)

module _ (s : Scale) (from_base : IsBase s.from) (to_base : IsBase s.to) (tb : Fraction) (format : Format) (width height sar_num sar_den : ℕ) where
  abbrev came : Lane
  came = Frames (VideoHead tb format width height sar_num sar_den)

  lasts_so : (f : VFrame) → IsItemFor came (Video f) → number_of s f ≤ end_number s f
  lasts_so f i = number_keeps s from_base to_base (ticks f.pts) (ticks (f.pts +ℤ f.duration))
      (ticks_keep f.pts (f.pts +ℤ f.duration) (less_or f.pts (f.pts +ℤ f.duration) (i.lasts tt)))

  valid_runs : (t : ℕ) (x : Item) (xs : List Item) → ((f : VFrame) → x ≡ Video f → t ≤ number_of s f) → All (IsItemFor came) (x ∷ xs)
      → InOrder came (x ∷ xs) → RunsFrom s t (pictures_of (x ∷ xs))
  valid_runs t (Video f) [] low a o = (low f refl, lasts_so f (a zero (Video f) (omega arith)), tt)
  valid_runs t (Video f) (y ∷ ys) low a o = (
    low f refl,
    lasts_so f (a zero (Video f) (omega arith)),
    valid_runs (number_of s f) y ys
        (λ g e. rises g (ap_starts y g e o.0))
        (λ k d lt. a (suc k) d (omega arith)) o.1,
  )
    where
      rises : (g : VFrame) → f.pts <ℤ g.pts → number_of s f ≤ number_of s g
      rises g h = number_keeps s from_base to_base (ticks f.pts) (ticks g.pts) (ticks_keep f.pts g.pts (less_or f.pts g.pts h))

      ap_starts : (y : Item) (g : VFrame) → y ≡ Video g → Follows came (Video f) y → f.pts <ℤ g.pts
      ap_starts y g e h = (subst (λ (z : Item). Follows came (Video f) z) e h).starts tt
  valid_runs t (Audio f) xs low a o = absurd ((a zero (Audio f) (omega arith)).fits)
  valid_runs t (Packet f) xs low a o = absurd ((a zero (Packet f) (omega arith)).fits)
  valid_runs t (Trailer f) xs low a o = absurd ((a zero (Trailer f) (omega arith)).fits)
  valid_runs t End xs low a o = absurd ((a zero End (omega arith)).fits)
  valid_runs t Broken xs low a o = absurd ((a zero Broken (omega arith)).fits)

  items_run : (xs : List Item) → All (IsItemFor came) xs → InOrder came xs → RunsFrom s 0 (pictures_of xs)
  items_run [] a o = tt
  items_run (x ∷ xs) a o = valid_runs 0 x xs (λ f e. omega arith) a o

  runs_of : (t : Flow) (f : VFrame) (gs : List VFrame) → IsValid came t → pictures_of t.items ≡ f ∷ gs → RunsFrom s 0 (f ∷ gs)
  runs_of t f gs v e = subst (λ (fs : List VFrame). RunsFrom s 0 fs) e (items_run t.items v.shape.each v.shape.in_order)

  pub shown_is_last : (t : Flow) (f : VFrame) (gs : List VFrame) → IsValid came t → pictures_of t.items ≡ f ∷ gs
      → (n : ℕ) → shown_at s n f gs ≡ last_by s n f gs
  shown_is_last t f gs v e n = shown_last s f n (number_of s f) gs (runs_of t f gs v e).2

  pub known_by_last : (t : Flow) (f : VFrame) (gs : List VFrame) → IsValid came t → pictures_of t.items ≡ f ∷ gs
      → known_below s f gs t.mark ≡ last_number s f gs t.mark
  known_by_last t f gs v e = let r = runs_of t f gs v e in known_last s f gs t.mark r.1 r.2
