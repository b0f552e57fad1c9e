-- A range that is set, and a machine that is made.
use Rattle.std.proofs.Common.{◌≡◌, ◌≢◌, ℕ, zero, suc, List, [], Some, false, refl, ap, ◌∙◌}
use Rattle.ff_stream.specs.declared.item.Lane.{Lane}
use Rattle.ff_stream.specs.declared.item.Lane.TheVariants.{Frames}
use Rattle.ff_stream.specs.Within.{passes_limits}
use Rattle.ff_frame.specs.declared.head.StreamHead.{StreamHead}
use Rattle.ff_filter.specs.declared.after.After.{After}
use Rattle.ff_filter.specs.declared.range.RangeSettings.{RangeSettings}
use Rattle.ff_filter.specs.Joins.{Flow}
use Rattle.ff_filter.specs.Views.{View}
use Rattle.ff_filter.specs.Made.{stepper_view}
use Rattle.ff_filter.specs.laws.Limits.{limited}
use Rattle.ff_filter.specs.Options.{IsTime}
use Rattle.ff_filter.specs.Ranges.{SetsRange}
use Rattle.ff_filter.specs.Singles.{single_view, single_is}

pub stop_set : (s t : RangeSettings) (option us : ℕ) (value : List ℕ) → option ≢ 0 → t.start ≡ s.start → t.stop ≡ Some us → IsTime value us → SetsRange s option value t
stop_set s t zero us value n a b c = absurd (n refl)
stop_set s t (suc option) us value n a b c = (a, (us, c, b))

pub none_set : (s t : RangeSettings) (option : ℕ) (value : List ℕ) → ((us : ℕ) → IsTime value us → ⊥) → SetsRange s option value t → ⊥
none_set s t zero value n h = n t.start h.0
none_set s t (suc option) value n h = n h.1.0 h.1.1

pub made_single : (v : View) (lane out : Lane) (head : StreamHead) (f : Flow → Flow) (after : After)
    → v ≡ stepper_view lane out (λ s. limited (passes_limits (Frames head)) 0 (f s)) [] false false after false → out ≡ Frames head → v ≡ single_view lane head f after
made_single v lane out head f after e o = e ∙ (ap (λ (l : Lane). stepper_view lane l (λ s. limited (passes_limits (Frames head)) 0 (f s)) [] false false after false) o ∙ single_is lane head f after)
