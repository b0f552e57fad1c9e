-- How the machine of an even rate is seen.
use Rattle.std.specs.Prelude.{◌≡◌, ℕ, ◌+◌, ◌*◌, Bool, cond, Option, None, Some, List, [], ◌∷◌, length}
use Rattle.ff_frame.specs.declared.head.StreamHead.{StreamHead}
use Rattle.ff_frame.specs.declared.video.VFrame.{VFrame}
use Rattle.ff_stream.specs.declared.item.Item.{Item}
use Rattle.ff_stream.specs.declared.item.Item.TheVariants.{Video, End, Broken}
use Rattle.ff_stream.specs.declared.item.Lane.TheVariants.{Frames}
use Rattle.ff_stream.specs.Ports.{nothing}
use Rattle.ff_stream.specs.Within.{passes_limits}
use Rattle.ff_filter.specs.declared.after.After.{After}
use Rattle.ff_filter.specs.Joins.{Flow, one, before}
use Rattle.ff_filter.specs.Views.{View}
use Rattle.ff_filter.specs.Made.{waiting, is_over}
use Rattle.ff_filter.specs.laws.Limits.{limited}
use Rattle.ff_vfilter.specs.declared.scale.Scale.{Scale}
use Rattle.ff_vfilter.specs.declared.showing.Ahead.{Ahead}
use Rattle.ff_vfilter.specs.declared.showing.Ahead.TheVariants as ahead
use Rattle.ff_vfilter.specs.declared.showing.Showing.{Showing}
use Rattle.ff_vfilter.specs.Rates.{number_of, end_number, shown}
use Rattle.ff_vfilter.specs.laws.RateSteps.{rated}

abbrev pub ahead_then : Ahead → Flow → Flow
ahead_then ahead.Unknown t = t
ahead_then (ahead.Picture f) t = before (Video f) t
ahead_then ahead.Whole t = one End
ahead_then ahead.Lost t = one Broken

-- what the picture that is shown, and what comes behind it, still give
abbrev pub still_shown : Showing → Flow → Flow
still_shown m t = rated m.scale (record { picture = m.picture; number = m.number }) (ahead_then m.ahead t)

abbrev pub rate_view : StreamHead → StreamHead → Showing → List Item → After → Bool → Bool → View
rate_view head given m queue after ended stopped = record {
  ins = Frames head ∷ [];
  outs = Frames given ∷ [];
  rest = λ ext q. cond ended nothing (limited (passes_limits (Frames given)) m.before (still_shown m (waiting queue after (ext 0))));
  shut = λ p. is_over after;
  ended = λ q. ended;
  stopped = λ q. stopped;
}

-- below which number the picture is shown, as far as is known
abbrev pub limit_of : Scale → Option VFrame → Ahead → ℕ
limit_of s p ahead.Unknown = 0
limit_of s p (ahead.Picture f) = number_of s f
limit_of s None ahead.Whole = 0
limit_of s (Some f) ahead.Whole = end_number s f
limit_of s p ahead.Lost = 0

-- the picture was shown once more
pub record Shown (old new : Showing) (f : VFrame) (x : Item) : Type 0 where
  pub is : x ≡ shown old.number f
  pub count : new.before ≡ old.before + 1
  pub rest : (t : Flow) → still_shown old t ≡ before x (still_shown new t)

abbrev pub weight : Ahead → ℕ
weight ahead.Unknown = 2
weight (ahead.Picture f) = 4
weight ahead.Whole = 0
weight ahead.Lost = 0

-- how much there is still to look at
abbrev pub work_left : List Item → Ahead → ℕ
work_left queue a = 3 * length queue + weight a
