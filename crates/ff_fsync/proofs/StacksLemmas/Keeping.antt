-- Of a valid stream of pictures none is let go.
use Rattle.std.specs.Prelude.{◌≡◌, ℕ, suc, ◌≤◌, ℤ, pos, negsuc, ◌<ℤ◌, ◌≤ℤ◌, true, List, [], ◌∷◌, All, refl}
use Rattle.std.proofs.Common.{ap, ◌∙◌, arith}
use Rattle.std.proofs.lemmas.Bool.{and_from, le-leb}
use Rattle.std.proofs.lemmas.Int.{ints}
use Rattle.ff_time.specs.Fraction.{Fraction}
use Rattle.ff_frame.specs.declared.head.StreamHead.TheVariants.{Video as VideoHead}
use Rattle.ff_frame.specs.declared.video.Format.{Format}
use Rattle.ff_stream.specs.declared.item.Item.{Item}
use Rattle.ff_stream.specs.declared.item.Item.TheVariants.{Audio, Video, Packet, Trailer, End, Broken}
use Rattle.ff_stream.specs.declared.item.Lane.TheVariants.{Frames}
use Rattle.ff_stream.specs.Times.{HasTime, start_of, ticks}
use Rattle.ff_stream.specs.Lanes.{FitsFrames, IsItemFor, InOrder, AreInShape, IsValid}
use Rattle.ff_filter.specs.Joins.{Flow}
use Rattle.ff_filter.specs.Shifts.{start_ticks}
use Rattle.ff_fsync.specs.Events.{put_if}
use Rattle.ff_fsync.proofs.StacksLemmas.Alls.{all_first, all_others}
use Rattle.ff_fsync.specs.Sides.{is_picture, fits_at, next_by, kept_from, kept}

later_ticks : (a b : ℤ) → pos 0 ≤ℤ a → a <ℤ b → suc (ticks a) ≤ ticks b
later_ticks (pos n) (pos m) z lt = omega (arith, ints)
later_ticks (pos n) (negsuc m) z lt = absurd (omega (arith, ints))
later_ticks (negsuc n) b z lt = absurd (omega (arith, ints))

-- the first of these starts at or after a time
abbrev FirstFrom : ℕ → List Item → Type 0
FirstFrom lo [] = Unit {0}
FirstFrom lo (x ∷ xs) = lo ≤ start_ticks x

module _ (tb : Fraction) (format : Format) (width height sar_num sar_den : ℕ) where
  is_one : (x : Item) → FitsFrames (VideoHead tb format width height sar_num sar_den) x → (is_picture x ≡ true) × HasTime x
  is_one (Audio f) h = absurd h
  is_one (Video f) h = (refl, tt)
  is_one (Packet p) h = absurd h
  is_one (Trailer t) h = absurd h
  is_one End h = absurd h
  is_one Broken h = absurd h

  others : (x : Item) (xs : List Item) → InOrder (Frames (VideoHead tb format width height sar_num sar_den)) (x ∷ xs)
      → InOrder (Frames (VideoHead tb format width height sar_num sar_den)) xs
  others x [] o = tt
  others x (y ∷ ys) o = o.1

  first_others : (x : Item) (xs : List Item) → All (IsItemFor (Frames (VideoHead tb format width height sar_num sar_den))) (x ∷ xs)
      → InOrder (Frames (VideoHead tb format width height sar_num sar_den)) (x ∷ xs) → FirstFrom (suc (start_ticks x)) xs
  first_others x [] a o = tt
  first_others x (y ∷ ys) a o =
      let here : IsItemFor (Frames (VideoHead tb format width height sar_num sar_den)) x = all_first (IsItemFor (Frames (VideoHead tb format width height sar_num sar_den))) x (y ∷ ys) a in
      let behind : IsItemFor (Frames (VideoHead tb format width height sar_num sar_den)) y = all_first (IsItemFor (Frames (VideoHead tb format width height sar_num sar_den))) y ys (all_others (IsItemFor (Frames (VideoHead tb format width height sar_num sar_den))) x (y ∷ ys) a) in
      later_ticks (start_of x) (start_of y) here.not_negative (o.0.starts (is_one y behind.fits).1)

  all_kept : (lo : ℕ) (xs : List Item) → All (IsItemFor (Frames (VideoHead tb format width height sar_num sar_den))) xs
      → InOrder (Frames (VideoHead tb format width height sar_num sar_den)) xs → FirstFrom lo xs → kept_from lo xs ≡ xs
  all_kept lo [] a o f = refl
  all_kept lo (x ∷ xs) a o f =
      let here : IsItemFor (Frames (VideoHead tb format width height sar_num sar_den)) x = all_first (IsItemFor (Frames (VideoHead tb format width height sar_num sar_den))) x xs a in
      let fits : fits_at lo x ≡ true = and_from (is_picture x) _ (is_one x here.fits).0 (le-leb lo (start_ticks x) f) in
      ap (λ b. put_if b x (kept_from (next_by b lo x) xs)) fits
      ∙ ap (λ (ys : List Item). x ∷ ys) (all_kept (suc (start_ticks x)) xs (all_others (IsItemFor (Frames (VideoHead tb format width height sar_num sar_den))) x xs a) (others x xs o) (first_others x xs a o))

  from_start : (xs : List Item) → FirstFrom 0 xs
  from_start [] = tt
  from_start (x ∷ xs) = omega arith

  pub shape_kept : (s : Flow) → AreInShape (Frames (VideoHead tb format width height sar_num sar_den)) s.items → kept 0 s ≡ s
  shape_kept s v = ap (λ (xs : List Item). let r : Flow = record { items = xs; mark = s.mark } in r)
      (all_kept 0 s.items v.each v.in_order (from_start s.items))

  pub valid_kept : (s : Flow) → IsValid (Frames (VideoHead tb format width height sar_num sar_den)) s → kept 0 s ≡ s
  valid_kept s v = shape_kept s v.shape
