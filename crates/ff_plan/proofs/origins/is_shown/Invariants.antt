use Rattle.std.proofs.Common.{◌≡◌, drop}
use Rattle.std.specs.List.{list_any}
use Rattle.ff_plan_layout.specs.Layout.{shows}
use Rattle.ff_plan.proofs.origins.is_shown.Given as goal

abbrev pub invariant-loop-origin : goal.invariant-loop-origin
invariant-loop-origin l = list_any (shows l.at) (drop l.origin-index l.origins) ≡ list_any (shows l.at) l.origins
