use Rattle.std.proofs.Common.{◌≡◌, drop}
use Rattle.ff_plan_layout.specs.Pads.{is_taken}
use Rattle.ff_plan_layout.specs.laws.Rows.{flat}
use Rattle.ff_plan_layout.proofs.wanting.in_rows.Given as goal

abbrev pub invariant-loop-row : goal.invariant-loop-row
invariant-loop-row l = is_taken (flat (drop l.row-index l.rows)) l.stream ≡ is_taken (flat l.rows) l.stream
