-- A cut frame by frame.
use Rattle.std.specs.Prelude.{Bool, cond, nat_le, List, [], ◌∷◌, map}
use Rattle.ff_frame.specs.declared.head.StreamHead.{StreamHead}
use Rattle.ff_frame.specs.declared.head.StreamHead.TheVariants.{Audio, Video}
use Rattle.ff_stream.specs.declared.item.Item.{Item}
use Rattle.ff_stream.specs.Stream.{still_open, whole}
use Rattle.ff_filter.specs.declared.range.Range.{Range}
use Rattle.ff_filter.specs.Ranges.{is_past}
use Rattle.ff_filter.specs.laws.Runs.{Stepped}
use Rattle.ff_filter.specs.Shifts.{earlier, start_ticks}
use Rattle.ff_afilter.specs.Trims.{kept as sound_kept, ends_past}

-- what is left of one frame: at most one
abbrev pub left_of : StreamHead → Range → Item → List Item
left_of (Audio tb rate bits channels codec) range x = map (earlier range.start) (sound_kept range x)
left_of (Video tb format width height sar_num sar_den) range x =
    cond (is_past range.stop (start_ticks x)) [] (cond (nat_le range.start (start_ticks x)) (earlier range.start x ∷ []) [])

-- the stream is whole with this frame
abbrev pub ends_with : StreamHead → Range → Item → Bool
ends_with (Audio tb rate bits channels codec) range x = ends_past range x
ends_with (Video tb format width height sar_num sar_den) range x = is_past range.stop (start_ticks x)

-- the frame as a step: what is left of it, and the stream is whole where it ends
abbrev pub cut_step : StreamHead → Range → Item → Stepped Range
cut_step h range x = record { made = record { items = left_of h range x; mark = cond (ends_with h range x) whole still_open }; next = range }
