-- Sound within a range of times, cut at the sample frame.
use Rattle.std.specs.Prelude.{◌≡◌, ℕ, zero, suc, ◌+◌, ◌-◌, ◌/◌, min, max, pos, Bool, true, false, cond, nat_lt, Option, None, Some, List, [], ◌∷◌, ◌++◌, length, Result, Ok}
use Rattle.ff_frame.specs.declared.audio.AFrame.{AFrame}
use Rattle.ff_frame.specs.declared.config.ConfigError.{ConfigError}
use Rattle.ff_frame.specs.declared.head.StreamHead.{StreamHead}
use Rattle.ff_frame.specs.Audio.{kept_samples}
use Rattle.ff_frame.specs.Heads.{base_of_head}
use Rattle.ff_stream.specs.declared.item.Item.{Item}
use Rattle.ff_stream.specs.declared.item.Item.TheVariants.{Audio, Video, Packet, Trailer, End, Broken}
use Rattle.ff_stream.specs.declared.item.Lane.TheVariants.{Frames}
use Rattle.ff_stream.specs.Stream.{whole}
use Rattle.ff_stream.specs.Times.{ticks}
use Rattle.ff_lang.specs.declared.graph.Arg.{Arg}
use Rattle.ff_filter.specs.declared.after.After.{After}
use Rattle.ff_filter.specs.declared.after.After.TheVariants.{More, Whole}
use Rattle.ff_filter.specs.declared.range.Range.{Range}
use Rattle.ff_filter.specs.declared.lasting.settings.TrimSettings.{TrimSettings}
use Rattle.ff_filter.specs.Joins.{Flow}
use Rattle.ff_filter.specs.Views.{View}
use Rattle.ff_filter.specs.Options.{is_sound, IsConfigured}
use Rattle.ff_filter.specs.Ranges.{IsRange, IsCeiling, is_past}
use Rattle.ff_filter.specs.lasting.Lastings.{trim_manual, lasting}
use Rattle.ff_filter.specs.Shifts.{start_ticks}
use Rattle.ff_filter.specs.Singles.{single_view}
use Rattle.ff_afilter.specs.declared.lasting_atrim.LastingATrim.{LastingATrim}

-- the number of a frame's sample frames
abbrev pub count_of : AFrame → ℕ
count_of f = length f.samples / f.channels

-- of so many sample frames from a start on, the number of those that start before the stop
abbrev pub before_stop : Option ℕ → ℕ → ℕ → ℕ
before_stop None start count = count
before_stop (Some stop) start count = min count (stop - start)

-- the frame from sample frame number `skip` to below number `until`, if there is one
abbrev pub part : AFrame → ℕ → ℕ → List Item
part f skip until = cond (nat_lt skip until) (Audio (record f { pts = pos (ticks f.pts + skip); samples = kept_samples f.channels skip (until - skip) f.samples }) ∷ []) []

-- what is kept of a frame: its sample frames from the start to below the stop, if there is one
abbrev pub kept : Range → Item → List Item
kept range (Audio f) = part f (range.start - ticks f.pts) (before_stop range.stop (ticks f.pts) (count_of f))
kept range (Video f) = Video f ∷ []
kept range (Packet p) = Packet p ∷ []
kept range (Trailer t) = Trailer t ∷ []
kept range End = []
kept range Broken = []

-- a frame ends at or past the stop
abbrev pub ends_past : Range → Item → Bool
ends_past range (Audio f) = is_past range.stop (ticks f.pts + count_of f)
ends_past range (Video f) = false
ends_past range (Packet p) = false
ends_past range (Trailer t) = false
ends_past range End = false
ends_past range Broken = false

-- what is kept of the frames up to the first one that ends at or past the stop
abbrev pub kept_all : Range → List Item → List Item
kept_all range [] = []
kept_all range (x ∷ xs) = kept range x ++ cond (ends_past range x) [] (kept_all range xs)

-- some frame ends at or past the stop
abbrev pub reaches : Range → List Item → Bool
reaches range [] = false
reaches range (x ∷ xs) = cond (ends_past range x) true (reaches range xs)

-- the sound from the start to below the stop, with its times; whole where a frame ends at or past the stop
abbrev pub sound_trimmed : Range → Flow → Flow
sound_trimmed range s = record { items = kept_all range s.items; mark = cond (reaches range s.items) whole s.mark }

abbrev pub after_if : Bool → After
after_if true = Whole
after_if false = More

-- a frame ends after a time
abbrev pub ends_after : ℕ → Item → Bool
ends_after time (Audio f) = nat_lt time (ticks f.pts + count_of f)
ends_after time (Video f) = false
ends_after time (Packet p) = false
ends_after time (Trailer t) = false
ends_after time End = false
ends_after time Broken = false

-- when the first sample starts that is kept: that of the first frame that ends after the start
abbrev pub first_kept : ℕ → List Item → Option ℕ
first_kept start [] = None
first_kept start (x ∷ xs) = cond (ends_after start x) (Some (max start (start_ticks x))) (first_kept start xs)

-- the same with a duration of so many ticks from the first sample kept on, where there are any
abbrev pub sound_lasting : Range → ℕ → Flow → Flow
sound_lasting range ticks s = sound_trimmed (lasting range ticks (first_kept range.start s.items)) s

-- with a stop at 0 and no duration the output ends before anything comes
abbrev pub at_once : ℕ → Option ℕ → After
at_once (suc ticks) stop = More
at_once zero None = More
at_once zero (Some zero) = Whole
at_once zero (Some (suc stop)) = More

-- a range and a duration, in ticks of the time base
abbrev pub MakesATrim : StreamHead → TrimSettings → Result LastingATrim ConfigError → Type 0
MakesATrim head settings q = (m : LastingATrim) × (m.trim.head ≡ head) × IsRange settings.range (base_of_head head) m.trim.range
    × IsCeiling settings.lasting (base_of_head head) m.lasting × (q ≡ Ok m)

-- `atrim` by its arguments: `start`, `end` and `duration`
abbrev pub IsATrim : List Arg → List StreamHead → Result LastingATrim ConfigError → Type 0
IsATrim args heads r = (all : TrimSettings) × (all.range.start ≡ 0) × (all.range.stop ≡ None) × (all.lasting ≡ 0)
    × IsConfigured is_sound trim_manual all MakesATrim args heads r

abbrev pub atrim_view : LastingATrim → View
atrim_view m = single_view (Frames m.trim.head) m.trim.head (λ s. sound_lasting m.trim.range m.lasting s) (at_once m.lasting m.trim.range.stop)
