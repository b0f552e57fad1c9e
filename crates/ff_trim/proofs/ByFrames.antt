-- A cut goes through a stream frame by frame.
use Rattle.std.proofs.Common.{◌≡◌, Bool, true, false, cond, List, [], ◌∷◌, ◌++◌, map, refl, ap, sym, ◌∙◌}
use Rattle.std.specs.Prelude.{nat_le}
use Rattle.std.proofs.lemmas.List.{map-append, append-nil}
use Rattle.ff_frame.specs.declared.head.StreamHead.{StreamHead}
use Rattle.ff_frame.specs.declared.head.StreamHead.TheVariants.{Audio as AudioHead, Video as VideoHead}
use Rattle.ff_stream.specs.declared.item.Item.{Item}
use Rattle.ff_stream.specs.Stream.{Mark, still_open, whole, broken}
use Rattle.ff_filter.specs.declared.range.Range.{Range}
use Rattle.ff_filter.specs.Joins.{Flow, joined}
use Rattle.ff_filter.specs.Ranges.{is_past}
use Rattle.ff_filter.specs.laws.Runs.{run, run_at, no_more}
use Rattle.ff_filter.specs.Shifts.{earlier, start_ticks}
use Rattle.ff_vfilter.specs.Trims.{from_start, before_stop, reaches}
use Rattle.ff_afilter.specs.Trims.{kept as sound_kept, kept_all, ends_past, reaches as sound_reaches}
use Rattle.ff_trim.specs.Cuts.{from_range}
use Rattle.ff_trim.specs.laws.Frames.{cut_step}

-- a frame of sound, and what comes behind it
sound_at : (range : Range) (a : Bool) (ks xs : List Item) (r : Bool) (m : Mark)
    → ◌≡◌ {A = Flow} (joined (record { items = map (earlier range.start) ks; mark = cond a whole still_open }) (record { items = map (earlier range.start) xs; mark = cond r whole m }))
    (record { items = map (earlier range.start) (ks ++ cond a [] xs); mark = cond (cond a true r) whole m })
sound_at range true ks xs r m = ap (λ (zs : List Item). let s : Flow = record { items = map (earlier range.start) zs; mark = whole } in s) (sym (append-nil ks))
sound_at range false ks xs r m = ap (λ (zs : List Item). let s : Flow = record { items = zs; mark = cond r whole m } in s) (sym (map-append (earlier range.start) ks xs))

-- a picture, and what comes behind it
picture_at : (range : Range) (a b : Bool) (x : Item) (xs : List Item) (r : Bool) (m : Mark) → nat_le range.start (start_ticks x) ≡ b
    → ◌≡◌ {A = Flow} (joined (record { items = cond a [] (cond b (earlier range.start x ∷ []) []); mark = cond a whole still_open })
    (record { items = map (earlier range.start) (from_start range.start xs); mark = cond r whole m }))
    (record { items = map (earlier range.start) (from_start range.start (cond a [] (x ∷ xs))); mark = cond (cond a true r) whole m })
picture_at range true b x xs r m e = refl
picture_at range false b x xs r m e = two b ∙ ap (λ k. let s : Flow = record { items = map (earlier range.start) (cond k (x ∷ from_start range.start xs) (from_start range.start xs)); mark = cond r whole m } in s) (sym e)
  where
    two : (b : Bool) → ◌≡◌ {A = Flow} (joined (record { items = cond b (earlier range.start x ∷ []) []; mark = still_open }) (record { items = map (earlier range.start) (from_start range.start xs); mark = cond r whole m }))
        (record { items = map (earlier range.start) (cond b (x ∷ from_start range.start xs) (from_start range.start xs)); mark = cond r whole m })
    two true = refl
    two false = refl

frames : (h : StreamHead) (range : Range) (xs : List Item) (m : Mark) → from_range h range (record { items = xs; mark = m }) ≡ run_at (cut_step h) no_more range xs m
frames (AudioHead tb rate bits channels codec) range [] still_open = refl
frames (AudioHead tb rate bits channels codec) range [] whole = refl
frames (AudioHead tb rate bits channels codec) range [] broken = refl
frames (VideoHead tb format width height sar_num sar_den) range [] still_open = refl
frames (VideoHead tb format width height sar_num sar_den) range [] whole = refl
frames (VideoHead tb format width height sar_num sar_den) range [] broken = refl
frames (AudioHead tb rate bits channels codec) range (x ∷ xs) m =
    sym (sound_at range (ends_past range x) (sound_kept range x) (kept_all range xs) (sound_reaches range xs) m)
    ∙ ap (λ (s : Flow). joined (cut_step (AudioHead tb rate bits channels codec) range x).made s) (frames (AudioHead tb rate bits channels codec) range xs m)
frames (VideoHead tb format width height sar_num sar_den) range (x ∷ xs) m =
    sym (picture_at range (is_past range.stop (start_ticks x)) (nat_le range.start (start_ticks x)) x (before_stop range.stop xs) (reaches range.stop xs) m refl)
    ∙ ap (λ (s : Flow). joined (cut_step (VideoHead tb format width height sar_num sar_den) range x).made s) (frames (VideoHead tb format width height sar_num sar_den) range xs m)

pub by_frames : (h : StreamHead) (range : Range) (s : Flow) → from_range h range s ≡ run (cut_step h) no_more range s
by_frames h range s = frames h range s.items s.mark
