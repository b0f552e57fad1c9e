-- Pictures within a range of times.
use Rattle.std.specs.Prelude.{◌≡◌, ℕ, zero, suc, Bool, true, false, cond, nat_le, Option, None, Some, List, [], ◌∷◌, Result, Ok}
use Rattle.ff_frame.specs.declared.config.ConfigError.{ConfigError}
use Rattle.ff_frame.specs.declared.head.StreamHead.{StreamHead}
use Rattle.ff_frame.specs.Heads.{base_of_head}
use Rattle.ff_stream.specs.declared.item.Item.{Item}
use Rattle.ff_stream.specs.declared.item.Lane.TheVariants.{Frames}
use Rattle.ff_stream.specs.Stream.{whole}
use Rattle.ff_lang.specs.declared.graph.Arg.{Arg}
use Rattle.ff_filter.specs.declared.after.After.{After}
use Rattle.ff_filter.specs.declared.after.After.TheVariants.{More, Whole}
use Rattle.ff_filter.specs.declared.range.Range.{Range}
use Rattle.ff_filter.specs.declared.lasting.settings.TrimSettings.{TrimSettings}
use Rattle.ff_filter.specs.Joins.{Flow}
use Rattle.ff_filter.specs.Views.{View}
use Rattle.ff_filter.specs.Options.{is_video, IsConfigured}
use Rattle.ff_filter.specs.Ranges.{IsRange, IsCeiling, is_past}
use Rattle.ff_filter.specs.lasting.Lastings.{trim_manual, lasting}
use Rattle.ff_filter.specs.Shifts.{start_ticks}
use Rattle.ff_filter.specs.Singles.{single_view}
use Rattle.ff_vfilter.specs.declared.lasting_trim.LastingTrim.{LastingTrim}

-- the pictures before the first one at or past the stop
abbrev pub before_stop : Option ℕ → List Item → List Item
before_stop stop [] = []
before_stop stop (x ∷ xs) = cond (is_past stop (start_ticks x)) [] (x ∷ before_stop stop xs)

-- a picture is at or past the stop
abbrev pub reaches : Option ℕ → List Item → Bool
reaches stop [] = false
reaches stop (x ∷ xs) = cond (is_past stop (start_ticks x)) true (reaches stop xs)

-- those that start at or after the start
abbrev pub from_start : ℕ → List Item → List Item
from_start start [] = []
from_start start (x ∷ xs) = cond (nat_le start (start_ticks x)) (x ∷ from_start start xs) (from_start start xs)

-- the pictures from the start to below the stop, with their times; whole where one is at or past the stop
abbrev pub trimmed : Range → Flow → Flow
trimmed range s = record {
  items = from_start range.start (before_stop range.stop s.items);
  mark = cond (reaches range.stop s.items) whole s.mark;
}

-- the start of the first picture that starts at or after the start
abbrev pub first_kept : ℕ → List Item → Option ℕ
first_kept start [] = None
first_kept start (x ∷ xs) = cond (nat_le start (start_ticks x)) (Some (start_ticks x)) (first_kept start xs)

-- the same with a duration of so many ticks from the first picture kept on, where there are any
abbrev pub lasting_trimmed : Range → ℕ → Flow → Flow
lasting_trimmed range ticks s = trimmed (lasting range ticks (first_kept range.start s.items)) s

-- with a stop at 0 and no duration the output ends before anything comes
abbrev pub at_once : ℕ → Option ℕ → After
at_once (suc ticks) stop = More
at_once zero None = More
at_once zero (Some zero) = Whole
at_once zero (Some (suc stop)) = More

-- a range and a duration, in ticks of the time base
abbrev pub MakesTrim : StreamHead → TrimSettings → Result LastingTrim ConfigError → Type 0
MakesTrim head settings q = (m : LastingTrim) × (m.trim.head ≡ head) × IsRange settings.range (base_of_head head) m.trim.range
    × IsCeiling settings.lasting (base_of_head head) m.lasting × (q ≡ Ok m)

-- `trim` by its arguments: `start`, `end` and `duration`
abbrev pub IsTrim : List Arg → List StreamHead → Result LastingTrim ConfigError → Type 0
IsTrim args heads r = (all : TrimSettings) × (all.range.start ≡ 0) × (all.range.stop ≡ None) × (all.lasting ≡ 0)
    × IsConfigured is_video trim_manual all MakesTrim args heads r

abbrev pub trim_view : LastingTrim → View
trim_view m = single_view (Frames m.trim.head) m.trim.head (λ s. lasting_trimmed m.trim.range m.lasting s) (at_once m.lasting m.trim.range.stop)
