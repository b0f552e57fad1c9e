-- How the machine of a function of one stream is seen before anything was fed.
use Rattle.std.specs.Prelude.{◌≡◌, false, []}
use Rattle.std.proofs.Common.{ap}
use Rattle.ff_stream.specs.declared.item.Lane.{Lane}
use Rattle.ff_stream.specs.declared.item.Lane.TheVariants.{Frames}
use Rattle.ff_frame.specs.declared.head.StreamHead.{StreamHead}
use Rattle.ff_stream.specs.Within.{within, passes_limits}
use Rattle.ff_filter.specs.declared.after.After.{After}
use Rattle.ff_filter.specs.Joins.{Flow}
use Rattle.ff_filter.specs.Views.{View}
use Rattle.ff_filter.specs.Made.{stepper_view}
use Rattle.ff_filter.specs.laws.Limits.{limited, limited_is}

-- what the function makes of all that comes, within the limits of its output; and from the start that the output is over,
-- where `after` says so
abbrev pub single_view : Lane → StreamHead → (Flow → Flow) → After → View
single_view lane head f after = stepper_view lane (Frames head) (λ s. within (passes_limits (Frames head)) (f s)) [] false false after false

pub single_is : (lane : Lane) (head : StreamHead) (f : Flow → Flow) (after : After)
    → stepper_view lane (Frames head) (λ s. limited (passes_limits (Frames head)) 0 (f s)) [] false false after false ≡ single_view lane head f after
single_is lane head f after = ap (λ (g : Flow → Flow). stepper_view lane (Frames head) g [] false false after false)
    (λ i s. limited_is (passes_limits (Frames head)) (f s) i)
