use Rattle.std.proofs.Common.{◌≡◌, ◌++◌, drop}
use Rattle.std.specs.List.{find}
use Rattle.ff_words.specs.maps.Choice.{numbered}
use Rattle.ff_plan_layout.specs.Pads.{is_free}
use Rattle.ff_plan_layout.specs.laws.Rows.{flat}
use Rattle.ff_plan_layout.proofs.wanting.free_in.Given as goal

abbrev pub invariant-loop-number : goal.invariant-loop-number
invariant-loop-number l = find (is_free l.kind (flat l.rows ++ l.row)) (numbered l.input l.number (drop l.number l.heads)) ≡ find (is_free l.kind (flat l.rows ++ l.row)) (numbered l.input 0 l.heads)
