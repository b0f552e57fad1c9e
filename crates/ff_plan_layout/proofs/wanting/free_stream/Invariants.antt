use Rattle.std.proofs.Common.{◌≡◌, ◌++◌, drop}
use Rattle.std.specs.List.{find}
use Rattle.ff_words.specs.maps.Choice.{lists, streams_from}
use Rattle.ff_plan_layout.specs.Pads.{is_free}
use Rattle.ff_plan_layout.specs.laws.Rows.{flat}
use Rattle.ff_plan_layout.proofs.wanting.free_stream.Given as goal

abbrev pub invariant-loop-input : goal.invariant-loop-input
invariant-loop-input l = find (is_free l.kind (flat l.rows ++ l.row)) (streams_from l.input (lists (drop l.input l.heads))) ≡ find (is_free l.kind (flat l.rows ++ l.row)) (streams_from 0 (lists l.heads))
