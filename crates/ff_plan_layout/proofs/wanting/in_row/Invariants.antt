use Rattle.std.proofs.Common.{◌≡◌, drop}
use Rattle.ff_plan_layout.specs.Pads.{is_taken}
use Rattle.ff_plan_layout.proofs.wanting.in_row.Given as goal

abbrev pub invariant-loop-want : goal.invariant-loop-want
invariant-loop-want l = is_taken (drop l.want-index l.row) l.stream ≡ is_taken l.row l.stream
