-- How the machine of a stack is seen.
use Rattle.std.specs.Prelude.{ℕ, Bool, ◌||◌, List}
use Rattle.ff_frame.specs.declared.video.VFrame.{VFrame}
use Rattle.ff_stream.specs.declared.item.Lane.TheVariants.{Frames}
use Rattle.ff_stream.specs.Within.{some_pass, passes_limits}
use Rattle.ff_filter.specs.Joins.{silence}
use Rattle.ff_filter.specs.Views.{View}
use Rattle.ff_fsync.specs.Sides.{sync_view, sync_spent, left_to_show}
use Rattle.ff_fsync.specs.laws.Syncs.{sides_of}
use Rattle.ff_fsync.specs.declared.stacks.stacked.Stacked.{Stacked}
use Rattle.ff_fsync.specs.stacks.Bases.{told_view}
use Rattle.ff_fsync.specs.stacks.Shapes.{stacked}
use Rattle.ff_fsync.specs.laws.stacks.Limits.{limits_view}

abbrev pub shows : Stacked → ℕ → List VFrame → VFrame
shows m = stacked m.sync.stack.shape

-- what it still shows without regard to the limits
abbrev pub sync_seen : Stacked → View
sync_seen m =
    told_view m.units.items
    (sync_view (shows m) m.sync.shortest (Frames m.sync.head) m.sync.from (sides_of m.sync.inputs.items) m.sync.ended m.sync.stopped)

abbrev pub seen : Stacked → View
seen m = limits_view (Frames m.sync.head) m.before (sync_seen m)

-- of what is due by what came so far, one picture passes a limit
abbrev pub is_cut : Stacked → Bool
is_cut m = some_pass (passes_limits (Frames m.sync.head)) m.before
    (left_to_show (shows m) m.sync.shortest (Frames m.sync.head) m.sync.from (sides_of m.sync.inputs.items) silence).items

-- nothing more of an input can matter
abbrev pub stack_spent : Stacked → ℕ → Bool
stack_spent m p = sync_spent m.sync.shortest (Frames m.sync.head) (sides_of m.sync.inputs.items) m.sync.ended m.sync.stopped p || is_cut m
